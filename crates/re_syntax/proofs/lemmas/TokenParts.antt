-- Parts of tokens and of their faults that basic and extended expressions share: each begins a text in one way.
use Rattle.re_syntax.{proofs.{Prelude.{◌≡◌, ℕ, false, true, ◌∷◌, ◌++◌, Option, codes, refl, sym, ◌∙◌, arith, append_assoc, Digit, in_class, FaultKind, Text, Interval, ClosedInterval, HasNoInterval, IsAllowed, IsDisallowed, least_too_large, most_too_large, descending}, lemmas.{CountsLaws.not_allowed, IntervalLaws.{lacks, cut-unique, Interval-unique, interval_lacks}}}, specs.Tokens.times}

-- two closed intervals of one text
pub record SameInterval (a b : ℕ) (x y : Option ℕ) (u v : Text) : Type 0 where
  pub least : a ≡ b
  pub most : x ≡ y
  pub rests : u ≡ v

pub closed-unique : (c : ℕ) (w : Text) → in_class Digit c ≡ false → lacks c (codes ",") ≡ true → {t s u v : Text} {a b : ℕ} {x y : Option ℕ} →
    ClosedInterval (c ∷ w) t u a x → ClosedInterval (c ∷ w) s v b y → t ≡ s → SameInterval a b x y (w ++ u) (w ++ v)
closed-unique c w n k p q e =
    let same = cut-unique c p.inside q.inside (interval_lacks c n k p.form) (interval_lacks c n k q.form) (sym p.whole ∙ e ∙ q.whole) in
    let numbers = Interval-unique p.form q.form same.0 in
    record { least = numbers.0; most = numbers.1; rests = same.1 }

pub same_times : {a b : ℕ} {x y : Option ℕ} → a ≡ b → x ≡ y → times a x ≡ times b y
same_times p q = cc

-- an interval and what closes it
pub closed_by : {close : Text} {t : Text} {least : ℕ} {most : Option ℕ} (u : Text) → Interval t least most → ClosedInterval close ((t ++ close) ++ u) u least most
closed_by {close} {t} u form = record { inside = t; form = form; whole = append_assoc t close u }

pub no_closed : {close t s u : Text} {a : ℕ} {x : Option ℕ} → HasNoInterval close t → ClosedInterval close s u a x → s ≡ t → ⊥
no_closed {u = u} {a = a} {x = x} h c e = h.none u a x (rw e at c)

-- equal numbers are not both allowed and refused
pub never_allowed : {a b : ℕ} {x y : Option ℕ} {k : FaultKind} → a ≡ b → x ≡ y → IsAllowed a x → IsDisallowed k b y → ⊥
never_allowed h k allowed refused = not_allowed refused (rw k at (rw h at allowed))

-- one kind of refusal
pub disallowed-unique : {j k : FaultKind} {a b : ℕ} {x y : Option ℕ} → IsDisallowed j a x → IsDisallowed k b y → a ≡ b → x ≡ y → j ≡ k
disallowed-unique (least_too_large h) (least_too_large i) e f = refl
disallowed-unique (least_too_large h) (most_too_large i) e f = refl
disallowed-unique (least_too_large h) (descending i l) e f = absurd (omega arith)
disallowed-unique (most_too_large h) (least_too_large i) e f = refl
disallowed-unique (most_too_large h) (most_too_large i) e f = refl
disallowed-unique (most_too_large {top = m} h) (descending {top = n} i l) e f = let same : m ≡ n = cc in absurd (omega arith)
disallowed-unique (descending h l) (least_too_large i) e f = absurd (omega arith)
disallowed-unique (descending {top = m} h l) (most_too_large {top = n} i) e f = let same : m ≡ n = cc in absurd (omega arith)
disallowed-unique (descending h l) (descending i m) e f = refl
