use Rattle.line_chunks.proofs.Prelude.{◌≡◌, ℕ, ◌<◌, ◌≤◌, get_or, not, no_line, is_matched}
use Rattle.line_chunks.proofs.chunk.Chunk.next_line.Given as goal

-- the lines so far are not of this kind
abbrev pub invariant-loop-k : goal.invariant-loop-k
invariant-loop-k l = (i : ℕ) → l.from ≤ i → i < l.k → is_matched (get_or l.self i no_line) ≡ not l.matched
