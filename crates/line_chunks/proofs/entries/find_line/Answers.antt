use Rattle.line_chunks.proofs.{Prelude.arith, lemmas.{Joins.place_here, Sums.{summed_to, length-chunks_of, comes_before}}}
use Rattle.line_chunks.proofs.entries.find_line.Goals as goal

pub lines_before-requires : goal.lines_before-requires
lines_before-requires c = summed_to _ _ (omega arith) c.requires.summed

pub lines_before-requires-2 : goal.lines_before-requires-2
lines_before-requires-2 c = summed_to _ _ (comes_before c.args.entries.now c.loop-low.low c.loop-low.high c.args.place c.loop-low.invariant.first c.loop-low.invariant.last c.loop-low.invariant.inside) c.requires.summed

pub returns-clause-place : goal.returns-clause-place
returns-clause-place c = (place_here _ _ c.loop-low.high _ c.loop-low.invariant.first c.loop-low.invariant.last (omega (arith, length-chunks_of c.args.entries.now)) c.loop-low-test.false c.lines_before-2.ensures).0

pub returns-clause-within : goal.returns-clause-within
returns-clause-within c = (place_here _ _ c.loop-low.high _ c.loop-low.invariant.first c.loop-low.invariant.last (omega (arith, length-chunks_of c.args.entries.now)) c.loop-low-test.false c.lines_before-2.ensures).1.1
