use Rattle.line_chunks.proofs.{Prelude.{[], refl, take_all}, lemmas.Pieces.{adds_none, chunk_next}}
use Rattle.line_chunks.proofs.new_chunks.add_all.Goals as goal

pub loop-entry-init : goal.loop-entry-init
loop-entry-init c = adds_none _ [] refl

pub loop-entry-preserved : goal.loop-entry-preserved
loop-entry-preserved c = chunk_next c.args.entries.now c.loop-entry.entry-index _ _ c.loop-entry-test.true c.entry-item.is c.len-size.ensures c.loop-entry.invariant c.in_ok-add_lines.ensures

pub returns : goal.returns
returns c = rw (take_all c.loop-entry.entry-index c.args.entries.now c.loop-entry-test.false) at c.loop-entry.invariant
