use Rattle.line_chunks.proofs.Prelude.{◌-◌, ◌<◌, ◌≤◌, length, take, all_of, chunks_of}
use Rattle.line_chunks.proofs.entries.find_line.Given as goal

abbrev pub invariant-loop-low : goal.invariant-loop-low
invariant-loop-low l = record {
  first : length (all_of (take l.low (chunks_of l.entries))) ≤ l.place;
  last : l.place < length (all_of (take l.high (chunks_of l.entries)));
  inside : l.high ≤ length l.entries;
}

abbrev pub decreases-loop-low : goal.decreases-loop-low
decreases-loop-low l = l.high - l.low
