-- The parts of the lines of a chunk, one line after the other.
use Rattle.{grep_session.proofs.Prelude.{◌≡◌, ℕ, ◌+◌, ◌<◌, Bool, true, ◌&&◌, List, [], inl, inr, get_or, sym, arith, cases_lt, Expression, Span, Options, KeptLine, line_text, map, no_line, search_cost, if◌then◌else◌, Steps, AddsAtMost, ArePartsAgain, subst}, std.proofs.Math.ListN.get_or-map}

-- ---- one line

-- the parts are searched
pub costs_search : (matched anew : Bool) (cost : ℕ) (begun ended : Steps) → matched ≡ true → anew ≡ true → AddsAtMost cost begun ended → AddsAtMost (if matched && anew then cost else 0) begun ended
costs_search matched anew cost begun ended m a few = subst (λ n. AddsAtMost n begun ended) (λ i. if sym m i && sym a i then cost else 0) few

-- by what its marks stand for: its parts, and their cost
module _ {matched paired anew fresh : Bool} (m : matched ≡ paired) (a : anew ≡ fresh) where
  pub parts_by : (es : List Expression) (options : Options) (line : KeptLine) (spans : List Span) → ArePartsAgain matched anew es options line spans → ArePartsAgain paired fresh es options line spans
  parts_by es options line spans are = rw a at (rw m at are)

  pub line_cost : (many : ℕ) (lines : List KeptLine) (k : ℕ) → (if matched && anew then search_cost many (line_text (get_or lines k no_line)) else 0) ≡ (if paired && fresh then search_cost many (get_or (map line_text lines) k []) else 0)
  line_cost many lines k = λ i. if m i && a i then search_cost many (sym (get_or-map line_text lines k no_line) i) else 0

-- what holds of the parts of the first lines and of one more
pub parts_next : (P : ℕ → List Span → Type 0) (k : ℕ) (before after : List (List Span)) → ((i : ℕ) → i < k → P i (get_or before i [])) → ((i : ℕ) → i < k → get_or after i [] ≡ get_or before i []) → P k (get_or after k []) → (i : ℕ) → i < k + 1 → P i (get_or after i [])
parts_next P k before after first others last i high = elim (cases_lt i k) [
  | inl low ↦ rw (others i low) (first i low)
  | inr late ↦ (let here : k ≡ i = omega arith in rw here at last)
]
