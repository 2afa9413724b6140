use Rattle.line_chunks.proofs.lemmas.Sums.{hits_fewer, lines_fit, stay_same, summed_here}
use Rattle.line_chunks.proofs.entries.sum_at.Goals as goal

pub set_sums-requires-clause-few : goal.set_sums-requires-clause-few
set_sums-requires-clause-few c = lines_fit _ _ _ c.args.k _ _ _ c.requires.there c.deref.ensures.value c.deref-2.ensures.value c.index_mut.ensures.value c.lines_before-lines.ensures c.matched_before-hits.ensures c.requires.few

pub set_sums-requires-clause-fewer : goal.set_sums-requires-clause-fewer
set_sums-requires-clause-fewer c = hits_fewer _ _ _ c.args.k _ _ _ c.requires.there c.deref.ensures.value c.deref-2.ensures.value c.index_mut.ensures.value c.lines_before-lines.ensures c.matched_before-hits.ensures

pub returns-clause-chunks : goal.returns-clause-chunks
returns-clause-chunks c = stay_same _ _ _ c.args.k _ _ _ c.requires.there c.deref.ensures.value c.deref-2.ensures.value c.index_mut.ensures.value c.lines_before-lines.ensures c.matched_before-hits.ensures _ c.set_sums.ensures

pub returns-clause-summed : goal.returns-clause-summed
returns-clause-summed c = summed_here _ _ _ _ _ _ _ c.requires.there c.deref.ensures.value c.deref-2.ensures.value c.index_mut.ensures.value c.lines_before-lines.ensures c.matched_before-hits.ensures c.requires.summed c.set_sums.ensures
