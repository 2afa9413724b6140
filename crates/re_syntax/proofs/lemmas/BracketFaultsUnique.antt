-- A text that a bracket expression opens begins one bracket expression, or has one fault there.
use Rattle.re_syntax.{proofs.{Prelude.{◌≡◌, ◌≢◌, ℕ, ◌≤◌, ◌⊎◌, inl, inr, [], ◌∷◌, codes, refl, sym, ap, ◌∙◌, subst, arith, ListPlace, FaultKind, Text, Begins, Bytes, Expression, Point, bare, symbol, MayBeAlone, Element, class, equivalence, alone, span, Rest, closing, IsBracket, matching, non_matching}, lemmas.{BracketsUnique.{heads, tails, apart, kind_of, point-unique, point_kind, element_kind, element-unique, element-not_closing}, CutsUnique.SameFault}}, specs.{declared.bracket.ListPlace.TheVariants.First, Brackets.more, BracketFaults.{PointFault, ended, RangeFault, no_end, of_class, descends, ElementFault, no_class, no_equivalence, no_point, no_range, cut_off, stray, ListFault, here, later, BracketFault}}}
use Rattle.re_syntax.specs.BracketFaults.{symbol as bad_symbol, matching as bad_matching, non_matching as bad_non_matching}

-- one fault of a point
point_fault-unique : {o r t s u v : Text} {j k : FaultKind} → PointFault o t j u → PointFault r s k v → o ≡ r → t ≡ s → SameFault j k u v
point_fault-unique (bad_symbol h) (bad_symbol n) f e = record { kinds = refl; places = e }
point_fault-unique (bad_symbol h) ended f e = absurd (cc)
point_fault-unique ended (bad_symbol h) f e = absurd (cc)
point_fault-unique ended ended f e = record { kinds = refl; places = f }

-- a point has none
point-no_fault : {o t s u v : Text} {b : ℕ} {k : FaultKind} → Point t u b → PointFault o s k v → t ≡ s → ⊥
point-no_fault (bare b h) (bad_symbol n) e = h (heads e) (inl (_, tails e))
point-no_fault (bare b h) ended e = cc
point-no_fault (symbol b) (bad_symbol n) e = n b (_, sym (tails (tails e)))
point-no_fault (symbol b) ended e = cc

-- neither is a class or an equivalence class
point_fault_kind : {o t v : Text} {k : FaultKind} → PointFault o t k v → kind_of t ≡ 0
point_fault_kind (bad_symbol n) = refl
point_fault_kind ended = refl

class_kind : {t : Text} → Begins (codes "[:") t ⊎ Begins (codes "[=") t → kind_of t ≡ 0 → ⊥
class_kind (inl (w, e)) h = apart (sym (ap kind_of e) ∙ h) refl
class_kind (inr (w, e)) h = apart (sym (ap kind_of e) ∙ h) refl

-- no such fault is at a byte that is no bracket
byte-no_fault : {o t v w : Text} {b : ℕ} {k : FaultKind} → PointFault o t k v → t ≡ b ∷ w → b ≢ 91 → ⊥
byte-no_fault (bad_symbol n) e h = h (sym (heads e))
byte-no_fault ended e h = cc

range_fault-unique : {o r t s u v : Text} {a b : ℕ} {j k : FaultKind} → RangeFault o a t j u → RangeFault r b s k v → o ≡ r → a ≡ b → t ≡ s → SameFault j k u v
range_fault-unique (no_end f) (no_end g) h l e = point_fault-unique f g h e
range_fault-unique (no_end f) (of_class c) h l e = absurd (class_kind c (sym (rw e) ∙ point_fault_kind f))
range_fault-unique (no_end f) (descends x low) h l e = absurd (point-no_fault x f (sym e))
range_fault-unique (of_class c) (no_end f) h l e = absurd (class_kind c (cc (point_fault_kind f)))
range_fault-unique (descends x low) (no_end f) h l e = absurd (point-no_fault x f e)
range_fault-unique (of_class c) (of_class d) h l e = record { kinds = refl; places = ap (λ x. 45 ∷ x) e }
range_fault-unique (of_class c) (descends y low) h l e = record { kinds = refl; places = ap (λ x. 45 ∷ x) e }
range_fault-unique (descends x low) (of_class d) h l e = record { kinds = refl; places = ap (λ x. 45 ∷ x) e }
range_fault-unique (descends x low) (descends y low') h l e = record { kinds = refl; places = ap (λ x. 45 ∷ x) e }

-- a range's end that is not below its start has none
range-no_fault : {o t s u v : Text} {a b d : ℕ} {k : FaultKind} → Point t u d → a ≤ d → RangeFault o b s k v → a ≡ b → t ≡ s → ⊥
range-no_fault x _ (no_end f) l e = point-no_fault x f e
range-no_fault x le (of_class c) l e = class_kind c (sym (rw e) ∙ point_kind x)
range-no_fault {d = d} x le (descends {last = c} y low) l e = let same : d ≡ c = (point-unique x y e).values in absurd (omega arith)

-- two hyphens that are not first begin no range
hyphens-no_range : {p : ListPlace} {t w : Text} → (Begins (codes "]") t ⊎ Begins (codes "-") t → p ≡ First) → t ≡ 45 ∷ w → p ≢ First → ⊥
hyphens-no_range start e n = n (start (inr (_, e)))

abbrev fault_kind : {p : ListPlace} {o t v : Text} {k : FaultKind} → ElementFault o p t k v → (n : ℕ) × (kind_of t ≡ n)
fault_kind (no_class h) = (1, refl)
fault_kind (no_equivalence h) = (2, refl)
fault_kind (no_point y) = (0, point_fault_kind y)
fault_kind (no_range x a b y) = (0, point_kind x)
fault_kind (cut_off n) = (0, refl)
fault_kind (stray n m l) = (0, refl)

element_fault-unique : {p q : ListPlace} {o r t s u v : Text} {j k : FaultKind} → ElementFault o p t j u → ElementFault r q s k v → o ≡ r → p ≡ q → t ≡ s → SameFault j k u v
element_fault-unique (no_class h) (no_class n) f g e = record { kinds = refl; places = e }
element_fault-unique (no_equivalence h) (no_equivalence n) f g e = record { kinds = refl; places = e }
element_fault-unique (no_point y) (no_point z) f g e = point_fault-unique y z f e
element_fault-unique (no_point y) (no_range x a b z) f g e = absurd (point-no_fault x y (sym e))
element_fault-unique (no_point y) (cut_off n) f g e = absurd (byte-no_fault y e (λ h. apart h refl))
element_fault-unique (no_point y) (stray n m l) f g e = absurd (byte-no_fault y e (λ h. apart h refl))
element_fault-unique (no_range x a b y) (no_point z) f g e = absurd (point-no_fault x z e)
element_fault-unique (no_range x a b y) (no_range z c d w) f g e =
    let same = point-unique x z e in range_fault-unique y w f same.values (tails same.rests)
element_fault-unique (no_range x a b y) (cut_off n) f g e = absurd (hyphens-no_range b e (λ h. n (sym g ∙ h)))
element_fault-unique (no_range x a b y) (stray n m l) f g e = absurd (hyphens-no_range b e (λ h. n (sym g ∙ h)))
element_fault-unique (cut_off n) (no_point y) f g e = absurd (byte-no_fault y (sym e) (λ h. apart h refl))
element_fault-unique (cut_off n) (no_range x a b y) f g e = absurd (hyphens-no_range b (sym e) (λ h. n (g ∙ h)))
element_fault-unique (cut_off n) (cut_off m) f g e = record { kinds = refl; places = f }
element_fault-unique (cut_off n) (stray m l i) f g e = absurd (l (sym (tails (tails e))))
element_fault-unique (stray n m l) (no_point y) f g e = absurd (byte-no_fault y (sym e) (λ h. apart h refl))
element_fault-unique (stray n m l) (no_range x a b y) f g e = absurd (hyphens-no_range b (sym e) (λ h. n (g ∙ h)))
element_fault-unique (stray n m l) (cut_off i) f g e = absurd (m (tails (tails e)))
element_fault-unique (stray n m l) (stray n' m' l') f g e = record { kinds = refl; places = tails e }
element_fault-unique x y f g e = absurd (apart (sym (fault_kind x).1 ∙ ap kind_of e ∙ (fault_kind y).1) refl)

-- a point before a hyphen that is not the last is not alone
alone-no_range : {p : ListPlace} {t v u : Text} → MayBeAlone p t v → v ≡ 45 ∷ u → ¬ Begins (codes "]") u → ⊥
alone-no_range may e n = let (r, f) = may.before_hyphen (_, e) in n (r, tails (sym e ∙ f))

-- a hyphen before another text
hyphen_point : {t u w : Text} {b : ℕ} → Point t u b → t ≡ 45 ∷ w → u ≡ w
hyphen_point x e = (point-unique x (bare 45 (λ k. absurd (apart k refl))) e).rests

no_bracket_at_end : ¬ Begins (codes "]") []
no_bracket_at_end (r, e) = cc

-- where an element is, none is missing
element-no_fault : {p q r : ListPlace} {o t s u v : Text} {a : Bytes} {k : FaultKind} → Element p t u a q → ElementFault o r s k v → p ≡ r → t ≡ s → ⊥
element-no_fault (class c) (no_class h) g e = h c (_, sym (tails (tails e)))
element-no_fault (equivalence b) (no_equivalence h) g e = h b (_, sym (tails (tails e)))
element-no_fault (alone x may) (no_point y) g e = point-no_fault x y e
element-no_fault (alone x may) (no_range z n m y) g e = alone-no_range may (point-unique x z e).rests n
element-no_fault (alone x may) (cut_off n) g e = alone-no_range may (hyphen_point x e) no_bracket_at_end
element-no_fault (alone x may) (stray n m l) g e = alone-no_range may (hyphen_point x e) l
element-no_fault (span x start y open' le) (no_point z) g e = point-no_fault x z e
element-no_fault (span x start y open' le) (no_range z n m w) g e =
    let same = point-unique x z e in range-no_fault y le w same.values (tails same.rests)
element-no_fault (span x start y open' le) (cut_off n) g e = hyphens-no_range start e (λ h. n (sym g ∙ h))
element-no_fault (span x start y open' le) (stray n m l) g e = hyphens-no_range start e (λ h. n (sym g ∙ h))
element-no_fault x y g e = apart (sym (element_kind x).1 ∙ ap kind_of e ∙ (fault_kind y).1) refl

-- where a list is closed, no element is missing
closing-no_fault : {p : ListPlace} {o t u v : Text} {k : FaultKind} → p ≢ First → ElementFault o p t k v → t ≡ 93 ∷ u → ⊥
closing-no_fault n (no_class h) e = apart (heads e) refl
closing-no_fault n (no_equivalence h) e = apart (heads e) refl
closing-no_fault n (no_point y) e = byte-no_fault y e (λ h. apart h refl)
closing-no_fault n (no_range x m start y) e = n (start (inl (_, e)))
closing-no_fault n (cut_off m) e = apart (heads e) refl
closing-no_fault n (stray m l i) e = apart (heads e) refl

list_fault-unique : {o r : Text} {p q : ListPlace} {t s u v : Text} {j k : FaultKind} → ListFault o p t j u → ListFault r q s k v → o ≡ r → p ≡ q → t ≡ s → SameFault j k u v
list_fault-unique (here f) (here g) h l e = element_fault-unique f g h l e
list_fault-unique (here f) (later x g) h l e = absurd (element-no_fault x f (sym l) (sym e))
list_fault-unique (later x f) (here g) h l e = absurd (element-no_fault x g l e)
list_fault-unique (later x f) (later {q = q} {t = w} {u = u} {a = a} y g) h l e =
    let same = element-unique x (subst (λ p. Element p w u a q) (sym l) y) e in
    list_fault-unique f g h same.places same.rests

rest-no_fault : {o : Text} {p q : ListPlace} {t s u v : Text} {a : Bytes} {k : FaultKind} → Rest p t u a → ListFault o q s k v → p ≡ q → t ≡ s → ⊥
rest-no_fault (closing n) (here f) l e = closing-no_fault (λ h. n (l ∙ h)) f (sym e)
rest-no_fault (closing n) (later x f) l e = element-not_closing (λ h. n (l ∙ h)) x (sym e)
rest-no_fault (more x r) (here f) l e = element-no_fault x f l e
rest-no_fault (more x r) (later {q = q} {t = w} {u = u} {a = a} y f) l e =
    let same = element-unique x (subst (λ p. Element p w u a q) (sym l) y) e in
    rest-no_fault r f same.places same.rests

pub bracket_fault-unique : {t s u v : Text} {j k : FaultKind} → BracketFault t j u → BracketFault s k v → t ≡ s → SameFault j k u v
bracket_fault-unique (bad_matching n f) (bad_matching m g) e = list_fault-unique f g e refl (tails e)
bracket_fault-unique (bad_matching n f) (bad_non_matching g) e = absurd (n (_, tails e))
bracket_fault-unique (bad_non_matching f) (bad_matching n g) e = absurd (n (_, sym (tails e)))
bracket_fault-unique (bad_non_matching f) (bad_non_matching g) e = list_fault-unique f g e refl (tails (tails e))

pub bracket-no_fault : {t s u v : Text} {d : Expression} {k : FaultKind} → IsBracket t u d → BracketFault s k v → t ≡ s → ⊥
bracket-no_fault (matching n r) (bad_matching m f) e = rest-no_fault r f refl (tails e)
bracket-no_fault (matching n r) (bad_non_matching f) e = n (_, tails e)
bracket-no_fault (non_matching r) (bad_matching n f) e = n (_, sym (tails e))
bracket-no_fault (non_matching r) (bad_non_matching f) e = rest-no_fault r f refl (tails (tails e))

-- a fault of a bracket expression is where a bracket is
pub bracket_fault_front : {t v : Text} {k : FaultKind} → BracketFault t k v → (w : Text) × (t ≡ 91 ∷ w)
bracket_fault_front (bad_matching {t = t} n f) = (t, refl)
bracket_fault_front (bad_non_matching {t = t} f) = (94 ∷ t, refl)
