-- A bracket expression is read in one way, whatever follows it.
use Rattle.{re_syntax.{proofs.{Prelude.{◌≡◌, ◌≢◌, ℕ, ◌⊎◌, inl, inr, cases_eq, ne_eqb, if◌then◌else◌, true, false, nat_eq, [], ◌∷◌, ◌++◌, codes, refl, sym, ap, ◌∙◌, eq-eqb, ListPlace, Text, Begins, Bytes, Expression, Point, OpensNamed, bare, symbol, MayBeAlone, Element, class, equivalence, alone, span, Rest, closing, IsBracket, matching, non_matching, BeginsWithOneBracket}, lemmas.ClassNames.class_name-unique}, specs.{declared.bracket.ListPlace.TheVariants.First, Brackets.more}}, re_trees.proofs.lemmas.UnionsLaws.both_unions}

-- equal texts have equal first bytes
pub heads : {a b : ℕ} {t u : Text} → a ∷ t ≡ b ∷ u → a ≡ b
heads e = cc

-- equal texts have equal rests
pub tails : {a b : ℕ} {t u : Text} → a ∷ t ≡ b ∷ u → t ≡ u
tails e = cc

-- two numbers that a test finds different are not equal
pub apart : {x y : ℕ} → x ≡ y → nat_eq x y ≡ false → ⊥
apart {x} {y} e h = let f : nat_eq x y ≡ true = eq-eqb x y e in cc

-- two points have one value and one rest
pub record SamePoint (a b : ℕ) (u v : Text) : Type 0 where
  pub values : a ≡ b
  pub rests : u ≡ v

-- at most one point begins a text
pub point-unique : {t s u v : Text} {a b : ℕ} → Point t u a → Point s v b → t ≡ s → SamePoint a b u v
point-unique (bare a h) (bare b k) e = record { values = heads e; rests = tails e }
point-unique (bare a h) (symbol b) e = absurd (h (heads e) (inl (_, tails e)))
point-unique (symbol a) (bare b k) e = absurd (k (sym (heads e)) (inl (_, sym (tails e))))
point-unique (symbol a) (symbol b) e = record { values = heads (tails (tails e)); rests = tails (tails (tails (tails (tails e)))) }

-- what begins here: a class, an equivalence class, or neither
abbrev second_kind : Text → ℕ
second_kind [] = 0
second_kind (c ∷ w) = if nat_eq c 58 then 1 else if nat_eq c 61 then 2 else 0

abbrev pub kind_of : Text → ℕ
kind_of [] = 0
kind_of (b ∷ w) = if nat_eq b 91 then second_kind w else 0

pub point_kind : {t u : Text} {b : ℕ} → Point t u b → kind_of t ≡ 0
point_kind (symbol b) = refl
point_kind (bare {t = t} b h) = go (cases_eq b 91) t h
  where
    go : (b ≡ 91) ⊎ (b ≢ 91) → (t : Text) → (b ≡ 91 → ¬ OpensNamed t) → kind_of (b ∷ t) ≡ 0
    go (inr n) t h = rw (ne_eqb b 91 n) refl
    go (inl e) [] h = rw e refl
    go (inl e) (c ∷ w) h = rw (e, ne_eqb c 58 (λ f. h e (inr (inl (w, ap (λ x. x ∷ w) f)))), ne_eqb c 61 (λ f. h e (inr (inr (w, ap (λ x. x ∷ w) f))))) refl

abbrev pub element_kind : {p q : ListPlace} {t u : Text} {a : Bytes} → Element p t u a q → (n : ℕ) × (kind_of t ≡ n)
element_kind (class c) = (1, refl)
element_kind (equivalence b) = (2, refl)
element_kind (alone x may) = (0, point_kind x)
element_kind (span x start y open' le) = (0, point_kind x)

-- two elements add the same bytes and leave the same place and rest
pub record SameElement (a b : Bytes) (q r : ListPlace) (u v : Text) : Type 0 where
  pub bytes : a ≡ b
  pub places : q ≡ r
  pub rests : u ≡ v

-- a point alone and one that begins a range are not the same
alone_span : {p : ListPlace} {t s u v : Text} {a b : ℕ} → Point t u a → MayBeAlone p t u → Point s (codes "-" ++ v) b → ¬ Begins (codes "]") v → t ≡ s → ⊥
alone_span x may y open' e =
    let same = point-unique x y e in
    let (r, f) = may.before_hyphen (_, same.rests) in
    open' (r, tails (sym same.rests ∙ f))

-- at most one element begins a text
pub element-unique : {p q r : ListPlace} {t s u v : Text} {a b : Bytes} → Element p t u a q → Element p s v b r → t ≡ s → SameElement a b q r u v
element-unique (class {t = t} c) (class {t = s} d) e =
    let same = class_name-unique c d t s (tails (tails e)) in
    record { bytes = rw same.classes_same; places = refl; rests = same.rests }
element-unique (equivalence b) (equivalence d) e =
    record { bytes = rw (heads (tails (tails e))); places = refl; rests = tails (tails (tails (tails (tails e)))) }
element-unique (alone x may) (alone y may') e = let same = point-unique x y e in record { bytes = rw same.values; places = refl; rests = same.rests }
element-unique (alone x may) (span y start z open' le) e = absurd (alone_span x may y open' e)
element-unique (span x start y open' le) (alone z may) e = absurd (alone_span z may x open' (sym e))
element-unique (span {a = a} {b = b} x start y open' le) (span {a = c} {b = d} z start' w open'' le') e =
    let one = point-unique x z e in
    let two = point-unique y w (tails one.rests) in
    record { bytes = cc (one.values, two.values); places = refl; rests = two.rests }
element-unique x y e = absurd (apart (sym (element_kind x).1 ∙ ap kind_of e ∙ (element_kind y).1) refl)

-- the bracket that closes a list is no element
pub element-not_closing : {p q : ListPlace} {t u w : Text} {a : Bytes} → p ≢ First → Element p t u a q → t ≡ 93 ∷ w → ⊥
element-not_closing n (class c) e = apart (heads e) refl
element-not_closing n (equivalence b) e = apart (heads e) refl
element-not_closing n (alone x may) e = n (may.bracket (_, e))
element-not_closing n (span x start y open' le) e = n (start (inl (_, e)))

-- two lists add the same bytes and leave the same rest
pub record SameRest (s r : Bytes) (u v : Text) : Type 0 where
  pub bytes : s ≡ r
  pub rests : u ≡ v

-- at most one list of elements begins a text
pub rest-unique : {p q : ListPlace} {t s u v : Text} {x y : Bytes} → Rest p t u x → Rest q s v y → p ≡ q → t ≡ s → SameRest x y u v
rest-unique (closing n) (closing m) f e = record { bytes = refl; rests = tails e }
rest-unique (closing n) (more x r) f e = absurd (element-not_closing (rw f at n) x (sym e))
rest-unique (more x r) (closing m) f e = absurd (element-not_closing (rw (← f) at m) x e)
rest-unique (more x r) (more y s) f e =
    let same = element-unique x (rw (← f) at y) e in
    let others = rest-unique r s same.places same.rests in
    record { bytes = both_unions same.bytes others.bytes; rests = others.rests }

-- two bracket expressions mean one expression and leave the same rest
pub record SameBracket (d e : Expression) (u v : Text) : Type 0 where
  pub expressions : d ≡ e
  pub rests : u ≡ v

-- at most one bracket expression begins a text
pub IsBracket-unique : {t s u v : Text} {d e : Expression} → IsBracket t u d → IsBracket s v e → t ≡ s → SameBracket d e u v
IsBracket-unique (matching plain r) (matching plain' q) e =
    let same = rest-unique r q refl (tails e) in record { expressions = rw same.bytes; rests = same.rests }
IsBracket-unique (matching plain r) (non_matching q) e = absurd (plain (_, tails e))
IsBracket-unique (non_matching r) (matching plain q) e = absurd (plain (_, sym (tails e)))
IsBracket-unique (non_matching r) (non_matching q) e =
    let same = rest-unique r q refl (tails (tails e)) in record { expressions = rw same.bytes; rests = same.rests }

-- a bracket expression begins with a bracket
pub bracket_front : {t u : Text} {e : Expression} → IsBracket t u e → Begins (codes "[") t
bracket_front (matching plain r) = (_, refl)
bracket_front (non_matching r) = (_, refl)

-- the law of the definitions
pub begins_with_one_bracket : (text : Text) → BeginsWithOneBracket text
begins_with_one_bracket _ u v d e x y = let same = IsBracket-unique x y refl in (same.rests, same.expressions)
