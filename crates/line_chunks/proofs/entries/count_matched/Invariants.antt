use Rattle.line_chunks.proofs.Prelude.{◌≡◌, take, matched_count}
use Rattle.line_chunks.proofs.entries.count_matched.Given as goal

abbrev pub invariant-loop-k : goal.invariant-loop-k
invariant-loop-k l = l.count ≡ matched_count (take l.k l.chunk)
