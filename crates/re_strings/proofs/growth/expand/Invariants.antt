use Rattle.re_strings.proofs.Prelude.{◌≡◌, ℕ, ◌<◌, ◌≤◌, ◌-◌, ◌++◌, ◌∷◌, [], List, All, map, length, slice_get, Some, Branch, text_at, rank, IsBranch, branch_at, branch_text}
use Rattle.re_strings.proofs.growth.expand.Given as goal

abbrev pub invariant-runs : goal.invariant-runs
invariant-runs l = record {
  low : (branch_at l.fn.branches.items l.node).low ≤ l.at;
  grown : (more : List Branch) × (l.branches.items ≡ l.fn.branches.items ++ more);
  are : All (IsBranch (map (λ s. s.now) l.strings)) l.branches.items;
  before : l.at < l.high → (i : ℕ) → (branch_at l.fn.branches.items l.node).low ≤ i → i < l.at → rank (slice_get (text_at (map (λ s. s.now) l.strings) i) (branch_at l.fn.branches.items l.node).depth) < rank (slice_get (text_at (map (λ s. s.now) l.strings) l.at) (branch_at l.fn.branches.items l.node).depth);
  child : (m : ℕ) → length l.fn.branches.items ≤ m → m < length l.branches.items
      → branch_text (map (λ s. s.now) l.strings) (branch_at l.branches.items m) ≡ branch_text (map (λ s. s.now) l.strings) (branch_at l.fn.branches.items l.node) ++ (branch_at l.branches.items m).byte ∷ [];
  covered : (i b : ℕ) → (branch_at l.fn.branches.items l.node).low ≤ i → i < l.at → slice_get (text_at (map (λ s. s.now) l.strings) i) (branch_at l.fn.branches.items l.node).depth ≡ Some b
      → (m : ℕ) × (length l.fn.branches.items ≤ m) × (m < length l.branches.items) × ((branch_at l.branches.items m).byte ≡ b);
}

abbrev pub decreases-runs : goal.decreases-runs
decreases-runs l = l.high - l.at
