use Rattle.line_chunks.proofs.{Prelude.arith, lemmas.Edits.{last_end, add_summed, add_ok}}
use Rattle.line_chunks.proofs.chunks.add_to_last.Goals as goal

pub add_to-requires-clause-few : goal.add_to-requires-clause-few
add_to-requires-clause-few c = omega (arith, last_end c.args.entries.now.items c.args.k _ c.requires.last c.requires.summed c.index_mut.ensures.value)

pub returns-clause-ok : goal.returns-clause-ok
returns-clause-ok c = add_ok c.args.entries.now.items c.args.k _ c.add_to.new.entry c.args.line.now c.requires.last c.requires.summed c.index_mut.ensures.value c.add_to.result c.add_to.ensures.ok

pub returns-clause-summed : goal.returns-clause-summed
returns-clause-summed c = add_summed c.args.entries.now.items c.args.k _ c.add_to.new.entry c.args.line.now c.requires.last c.requires.summed c.index_mut.ensures.value c.add_to.result c.add_to.ensures.ok c.add_to.ensures.err
