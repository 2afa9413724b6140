use Rattle.line_chunks.proofs.Prelude.{◌≡◌, ℕ, ◌<◌, ◌≤◌, get_or, not, no_line, is_matched, all_of, IsPlace, chunks_of}
use Rattle.line_chunks.proofs.entries.find_next.Given as goal

-- the lines so far are not of this kind
abbrev pub invariant-loop-k : goal.invariant-loop-k
invariant-loop-k l = record {
  is : IsPlace (chunks_of l.entries) l.place l.k l.offset;
  after : l.from ≤ l.place;
  passed : (i : ℕ) → l.from ≤ i → i < l.place → is_matched (get_or (all_of (chunks_of l.entries)) i no_line) ≡ not l.matched;
}
