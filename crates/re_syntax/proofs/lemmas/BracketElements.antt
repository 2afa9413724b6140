-- Which element is where a point is, and where there is none.
use Rattle.re_syntax.{proofs.{Prelude.{◌≡◌, ◌≢◌, ℕ, ◌≤◌, ◌⊎◌, inl, inr, ◌∷◌, ◌++◌, codes, refl, ap, ◌∙◌, ListPlace, AfterPoint, AfterRange, Text, Begins, only, range, Point, bare, Element, alone, span, MayGoOn}, lemmas.BracketsUnique.{apart, point-unique}}, specs.declared.bracket.ListPlace.TheVariants.First}

-- a point that no range can begin at is alone
pub alone_stands : {p : ListPlace} {t v : Text} {b : ℕ} → MayGoOn p t → Point t v b → (Begins (codes "-") v → Begins (codes "-]") v) → Element p t v (only b) AfterPoint
alone_stands {p} {t} {v} on x f = alone x (record { bracket = on.bracket; hyphen = λ h. hyphen (on.hyphen h); before_hyphen = f })
  where
    hyphen : (p ≢ AfterPoint) ⊎ Begins (codes "-]") t → (p ≢ AfterPoint) ⊎ Begins (codes "]") v
    hyphen (inl n) = inl n
    hyphen (inr (r, e)) = inr (r, (point-unique x (bare 45 (λ k. absurd (apart k refl))) e).rests)

-- a point, a hyphen that is not the last and a point that is not below the first are a range
pub range_stands : {p : ListPlace} {t v u w : Text} {b d : ℕ} → MayGoOn p t → (Begins (codes "-") t → p ≡ First) → Point t v b → v ≡ codes "-" ++ u → ¬ Begins (codes "-]") v →
    Point u w d → b ≤ d → Element p t w (range b d) AfterRange
range_stands {p} {t = t} {b = b} on first x e never y le = span (rw e at x) start y (λ (r, f). never (r, e ∙ ap (λ s. 45 ∷ s) f)) le
  where
    start : Begins (codes "]") t ⊎ Begins (codes "-") t → p ≡ First
    start (inl h) = on.bracket h
    start (inr h) = first h
