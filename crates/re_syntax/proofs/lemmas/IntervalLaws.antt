-- The text between an interval's braces is read in one way.
use Rattle.re_syntax.proofs.Prelude.{◌≡◌, ℕ, Bool, true, false, not, nat_eq, [], ◌∷◌, ◌++◌, Option, Some, codes, refl, sym, ap, ◌∙◌, append_assoc, and_parts, ne_eqb, and_from, not_from_false, eq-eqb, list_all, Digit, Text, in_class, IsNumber, Interval, exactly, at_least, between, up_to, value}

-- no byte of the text is this one
abbrev pub lacks : ℕ → Text → Bool
lacks c t = list_all (λ b. not (nat_eq b c)) t

-- a byte is not different from itself
itself : {b c : ℕ} → b ≡ c → not (nat_eq b c) ≡ true → ⊥
itself {b} {c} e h = let f : nat_eq b c ≡ true = eq-eqb b c e in let g : not true ≡ true = rw f at h in cc

-- a text that lacks a byte does not begin with it
lacks_head : {c b : ℕ} (t : Text) → lacks c (b ∷ t) ≡ true → b ≡ c → ⊥
lacks_head {c} {b} t h e = itself e (and_parts (not (nat_eq b c)) (lacks c t) h).0

-- the rest of a text that lacks a byte lacks it
lacks_tail : (c b : ℕ) (t : Text) → lacks c (b ∷ t) ≡ true → lacks c t ≡ true
lacks_tail c b t h = (and_parts (not (nat_eq b c)) (lacks c t) h).1

-- a text is cut at its first such byte in one way
pub cut-unique : (c : ℕ) (t u : Text) {r s : Text} → lacks c t ≡ true → lacks c u ≡ true → t ++ c ∷ r ≡ u ++ c ∷ s → (t ≡ u) × (r ≡ s)
cut-unique c [] [] h k e = (refl, cc)
cut-unique c [] (b ∷ u) h k e = absurd (lacks_head u k (cc))
cut-unique c (a ∷ t) [] h k e = absurd (lacks_head t h (cc))
cut-unique c (a ∷ t) (b ∷ u) h k e =
    let same = cut-unique c t u (lacks_tail c a t h) (lacks_tail c b u k) (cc) in
    let parts : t ≡ u = same.0 in
    (cc, same.1)

-- a text that lacks a byte is not cut at it
pub lacks-cut : (c : ℕ) (t u r : Text) → lacks c t ≡ true → t ≡ u ++ c ∷ r → ⊥
lacks-cut c [] [] r h e = cc
lacks-cut c [] (b ∷ u) r h e = cc
lacks-cut c (a ∷ t) [] r h e = lacks_head t h (cc)
lacks-cut c (a ∷ t) (b ∷ u) r h e = lacks-cut c t u r (lacks_tail c a t h) (cc)

-- two texts that lack a byte lack it when joined
pub lacks-append : (c : ℕ) (t u : Text) → lacks c t ≡ true → lacks c u ≡ true → lacks c (t ++ u) ≡ true
lacks-append c [] u h k = k
lacks-append c (b ∷ t) u h k = and_from (not (nat_eq b c)) (lacks c (t ++ u)) (and_parts (not (nat_eq b c)) (lacks c t) h).0 (lacks-append c t u (lacks_tail c b t h) k)

-- a digit is different from a byte that is none
digit_is : (b c : ℕ) → in_class Digit b ≡ true → in_class Digit c ≡ false → not (nat_eq b c) ≡ true
digit_is b c h k = not_from_false _ (ne_eqb b c (λ e. let f : in_class Digit b ≡ false = rw e k in cc))

-- digits lack a byte that is none
digits_lack : (c : ℕ) (t : Text) → in_class Digit c ≡ false → list_all (in_class Digit) t ≡ true → lacks c t ≡ true
digits_lack c [] n h = refl
digits_lack c (b ∷ t) n h =
    let parts = and_parts (in_class Digit b) (list_all (in_class Digit) t) h in
    and_from (not (nat_eq b c)) (lacks c t) (digit_is b c parts.0 n) (digits_lack c t n parts.1)

-- nothing between the braces closes them
pub interval_lacks : (c : ℕ) {t : Text} {least : ℕ} {most : Option ℕ} → in_class Digit c ≡ false → lacks c (codes ",") ≡ true → Interval t least most → lacks c t ≡ true
interval_lacks c n k (exactly m h) = digits_lack c m n h.digits
interval_lacks c n k (at_least m h) = lacks-append c m _ (digits_lack c m n h.digits) k
interval_lacks c n k (between m p h q) =
    lacks-append c (m ++ codes ",") p (lacks-append c m (codes ",") (digits_lack c m n h.digits) k) (digits_lack c p n q.digits)
interval_lacks c n k (up_to m h) = lacks-append c (codes ",") m k (digits_lack c m n h.digits)

-- a number has no comma
no_comma : {m : Text} → IsNumber m → lacks 44 m ≡ true
no_comma {m} h = digits_lack 44 m refl h.digits

-- a comma joins what is before it and after it
comma : (m p : Text) → (m ++ codes ",") ++ p ≡ m ++ 44 ∷ p
comma m p = append_assoc m (codes ",") p

-- a text is of one form, with one pair of numbers
pub Interval-unique : {t u : Text} {a b : ℕ} {x y : Option ℕ} → Interval t a x → Interval u b y → t ≡ u → (a ≡ b) × (x ≡ y)
Interval-unique (exactly m h) (exactly n k) e = (ap value e, ap (λ v. Some (value v)) e)
Interval-unique (exactly m h) (at_least n k) e = absurd (lacks-cut 44 m n [] (no_comma h) e)
Interval-unique (exactly m h) (between n p k q) e = absurd (lacks-cut 44 m n p (no_comma h) (e ∙ comma n p))
Interval-unique (at_least m h) (exactly n k) e = absurd (lacks-cut 44 n m [] (no_comma k) (sym e))
Interval-unique (at_least m h) (at_least n k) e = let same = cut-unique 44 m n (no_comma h) (no_comma k) e in (ap value same.0, refl)
Interval-unique (at_least m h) (between n p k q) e =
    absurd (q.not_empty (sym (cut-unique 44 m n (no_comma h) (no_comma k) (e ∙ comma n p)).1))
Interval-unique (between m o h q) (exactly n k) e = absurd (lacks-cut 44 n m o (no_comma k) (sym e ∙ comma m o))
Interval-unique (between m o h q) (at_least n k) e =
    absurd (q.not_empty (cut-unique 44 m n (no_comma h) (no_comma k) (sym (comma m o) ∙ e)).1)
Interval-unique (between m o h q) (between n p k r) e =
    let same = cut-unique 44 m n (no_comma h) (no_comma k) (sym (comma m o) ∙ e ∙ comma n p) in
    (ap value same.0, ap (λ v. Some (value v)) same.1)
Interval-unique (exactly m h) (up_to n k) e = absurd (lacks-cut 44 m [] n (no_comma h) e)
Interval-unique (at_least m h) (up_to n k) e = absurd (h.not_empty (cut-unique 44 m [] (no_comma h) refl e).0)
Interval-unique (between m o h q) (up_to n k) e = absurd (h.not_empty (cut-unique 44 m [] (no_comma h) refl (sym (comma m o) ∙ e)).0)
Interval-unique (up_to m h) (exactly n k) e = absurd (lacks-cut 44 n [] m (no_comma k) (sym e))
Interval-unique (up_to m h) (at_least n k) e = absurd (k.not_empty (sym (cut-unique 44 [] n refl (no_comma k) e).0))
Interval-unique (up_to m h) (between n p k q) e = absurd (k.not_empty (sym (cut-unique 44 [] n refl (no_comma k) (e ∙ comma n p)).0))
Interval-unique (up_to m h) (up_to n k) e = let same = cut-unique 44 [] [] refl refl e in (refl, ap (λ v. Some (value v)) same.1)
