-- The points of bracket expressions, by what a cursor passes or finds.
use Rattle.re_syntax.proofs.Prelude.{◌≡◌, ℕ, inl, inr, [], ◌∷◌, ◌++◌, codes, sym, ap, ◌∙◌, Cursor, Text, Begins, OpensNamed, Point, bare, symbol, OpensNoClass, left, Passes}

-- what does not begin a text does not begin an equal one
pub not_begins_along : {f g t u : Text} → ¬ Begins f t → f ≡ g → t ≡ u → ¬ Begins g u
not_begins_along h e k (rest, q) = h (rest, k ∙ q ∙ ap (λ x. x ++ rest) (sym e))

-- a point of a text is one of an equal text
pub point_along : {t u v : Text} {b : ℕ} → t ≡ u → Point u v b → Point t v b
point_along e h = rw e h

-- `[.c.]` was passed
pub symbol_passed : {a b d : Cursor} {c : ℕ} → Passes (codes "[.") a b → Passes (c ∷ codes ".]") b d → Point (left a) (left d) c
symbol_passed {c = c} p q = point_along (cc (p.passed, q.passed)) (symbol c)

-- a byte was passed, and it opens nothing
pub byte_passed : {a d : Cursor} {b : ℕ} → Passes (b ∷ []) a d → ¬ Begins (codes "[.") (left a) → OpensNoClass (left a) → Point (left a) (left d) b
byte_passed {a} {d} {b} p no_symbol no_class = point_along p.passed (bare b opens)
  where
    opens : b ≡ 91 → ¬ OpensNamed (left d)
    opens e (inl (rest, f)) = no_symbol (rest, p.passed ∙ ap (λ t. b ∷ t) f ∙ ap (λ x. x ∷ 46 ∷ rest) e)
    opens e (inr (inl (rest, f))) = no_class.class (rest, p.passed ∙ ap (λ t. b ∷ t) f ∙ ap (λ x. x ∷ 58 ∷ rest) e)
    opens e (inr (inr (rest, f))) = no_class.equivalence (rest, p.passed ∙ ap (λ t. b ∷ t) f ∙ ap (λ x. x ∷ 61 ∷ rest) e)
