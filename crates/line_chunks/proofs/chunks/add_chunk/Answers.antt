use Rattle.line_chunks.proofs.{Prelude.◌∙◌, lemmas.Edits.{new_chunk_put, new_chunk_summed}}
use Rattle.line_chunks.proofs.chunks.add_chunk.Goals as goal

pub returns-clause-ok : goal.returns-clause-ok
returns-clause-ok c = new_chunk_put c.args.entries.now.items _ c.lines_before-end.result c.matched_before-hits.result _ _ c.args.line.now c.in_ok-chunk.ensures c.in_ok-push.ensures.ok c.in_ok-push-2.ensures.items

pub returns-clause-summed : goal.returns-clause-summed
returns-clause-summed c = new_chunk_summed _ _ _ _ _ _ c.args.line.now c.in_ok-chunk.ensures c.in_ok-push.ensures.ok c.in_ok-push-2.ensures.items c.requires.summed c.deref.ensures.value c.deref-2.ensures.value (c.len-count.ensures ∙ c.args.entries.now.ok.0) c.lines_before-end.ensures c.matched_before-hits.ensures
