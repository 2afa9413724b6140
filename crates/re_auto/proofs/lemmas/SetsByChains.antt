-- Sets of positions are what the chains say, step by step.
use Rattle.re_auto.proofs.{Prelude.{ℕ, suc, ◌<◌, inl, inr, ◌↔◌, ◌++◌, arith, length, slice_index, refl, Text, Expression, Holds, Mode, Part, is_begin, is_end, part_of, MayBegin, IsAfter, IsNext, Accepts}, lemmas.{Chains.{reaches_on, reaches_back}, PositionsDecide.positions_decide}}

-- no position is reached at the line's first place
pub none_is_right : (part : Part) (mode : Mode) (line : Text) (S : ℕ → Type 0) → ((q : ℕ) → ¬ S q) → IsAfter part mode line 0 S
none_is_right part mode line S none q = (λ s. absurd (none q s), λ r. absurd r.2)

-- a step keeps a set right
pub step_is_right : (part : Part) (mode : Mode) (line : Text) (j : ℕ) (S T : ℕ → Type 0) → IsAfter part mode line j S → j < length line
    → IsNext part mode (is_begin j) S (slice_index line j) T → IsAfter part mode line (suc j) T
step_is_right part mode line j S T after lt next q = (
  λ t. elim ((next q).0 t).1 [ inl w ↦ (j, w.0, ((lt, ((next q).0 t).0), inl (refl, w.1))) | inr w ↦ let (i, b, r) = (after w.0).0 w.1 in (i, b, ((lt, ((next q).0 t).0), inr (w.0, r, w.2))) ],
  λ (i, b, r). elim r.1 [ inl (e, f) ↦ (next q).1 (r.0.1, inl (rw e at b, f)) | inr (p, before, w) ↦ (next q).1 (r.0.1, inr (p, (after p).1 (i, b, before), w)) ],
)

-- a right set accepts exactly where some stretch of the mode that ends here is matched
pub accept_is_right : (e : Expression) (n : ℕ) (mode : Mode) (line : Text) (j : ℕ) (S : ℕ → Type 0) → IsAfter (part_of e n) mode line j S
    → Accepts (part_of e n) mode (is_begin j) (is_end line j) S ↔ ((i : ℕ) × MayBegin mode (is_begin i) × Holds line e i j)
accept_is_right e n mode line j S after = (
  elim [ inl w ↦ (j, w.0, (positions_decide e n line j j).1 (inl (refl, w.1))) | inr (q, s, l) ↦ let (i, b, r) = (after q).0 s in (i, b, (positions_decide e n line i j).1 (inr (q, r, l))) ],
  λ (i, b, h). elim ((positions_decide e n line i j).0 h) [ inl (same, empty) ↦ inl (rw same at b, rw same at empty) | inr (q, r, l) ↦ inr (q, (after q).1 (i, b, r), l) ],
)

module _ (part : Part) (w rest : Text) where
  -- a set that is right after a front is right there on each line that begins with it
  pub fronts : (mode : Mode) (S : ℕ → Type 0) → IsAfter part mode w (length w) S → IsAfter part mode (w ++ rest) (length w) S
  fronts mode S after q = (
    λ s. let (i, b, r) = (after q).0 s in (i, b, reaches_on part w rest i (length w) q (omega arith) r),
    λ (i, b, r). (after q).1 (i, b, reaches_back part w rest i (length w) q (omega arith) r),
  )

  -- the converse: a set that is right there on such a line is right after the front
  pub fronts_back : (mode : Mode) (S : ℕ → Type 0) → IsAfter part mode (w ++ rest) (length w) S → IsAfter part mode w (length w) S
  fronts_back mode S after q = (
    λ s. let (i, b, r) = (after q).0 s in (i, b, reaches_back part w rest i (length w) q (omega arith) r),
    λ (i, b, r). (after q).1 (i, b, reaches_on part w rest i (length w) q (omega arith) r),
  )
