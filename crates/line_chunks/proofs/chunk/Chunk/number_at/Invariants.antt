use Rattle.line_chunks.proofs.Prelude.{◌≡◌, ◌≤◌, ◌-◌, ℕ, length, map, take, terminated, line_text}
use Rattle.line_chunks.proofs.chunk.Chunk.number_at.Given as goal

abbrev pub invariant-loop-number : goal.invariant-loop-number
invariant-loop-number l = (l.number ≤ length l.self) × ((k : ℕ) → l.from ≤ k → k ≤ length l.self → l.place ≡ length (terminated (take k (map line_text l.self))) → l.number ≤ k)

abbrev pub decreases-loop-number : goal.decreases-loop-number
decreases-loop-number l = length l.self - l.number
