use Rattle.line_chunks.proofs.Prelude.{take, all_of, AddsLines, chunks_of}
use Rattle.line_chunks.proofs.new_chunks.add_all.Given as goal

abbrev pub invariant-loop-entry : goal.invariant-loop-entry
invariant-loop-entry l = AddsLines l.filling.limit l.fn.fresh.items (all_of (chunks_of (take l.entry-index l.entries))) l.fresh.items
