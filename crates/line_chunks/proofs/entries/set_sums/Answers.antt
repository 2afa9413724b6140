use Rattle.line_chunks.proofs.{Prelude.arith, lemmas.Sums.matched_few}
use Rattle.line_chunks.proofs.entries.set_sums.Goals as goal

pub overflow_add-entry-2 : goal.overflow_add-entry-2
overflow_add-entry-2 c = omega (arith, matched_few c.args.entry.now.chunk)
