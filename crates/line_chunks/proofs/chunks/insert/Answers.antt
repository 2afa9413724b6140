use Rattle.line_chunks.proofs.{Prelude.{ap, ◌∙◌, all_of, arith, chunks_of}, lemmas.{Joins.seams_in_order, Edits.{seam_end, lines_put, put_summed, put_few, put_filled, chunks_put}}}
use Rattle.line_chunks.proofs.chunks.insert.Goals as goal

pub put_chunks-requires-clause-in_order : goal.put_chunks-requires-clause-in_order
put_chunks-requires-clause-in_order c =
    let p = rw c.deref.ensures.value at c.find_seam-first.ensures.place in
    seam_end c.args.entries.now.items c.find_seam-first.result.0 c.find_seam-last.result.0 c.chunk_end-end.result (c.len.ensures ∙ c.args.entries.now.ok.0) (seams_in_order (rw c.deref.ensures.value at c.find_seam-first.ensures.place) (rw c.deref-2.ensures.value at c.find_seam-last.ensures.place) (omega arith) c.find_seam-first.ensures.first c.find_seam-first.ensures.after) p.chunk_within c.chunk_end-end.ensures.next c.chunk_end-end.ensures.last

pub sum_from-requires-clause-summed : goal.sum_from-requires-clause-summed
sum_from-requires-clause-summed c = put_summed c.args.entries.now.items _ c.in_ok-fresh.fresh.items (all_of (chunks_of c.args.new.now)) c.args.start c.args.count _ _ _ _ c.chunk_end-end.result _ (rw c.deref.ensures.value at c.find_seam-first.ensures.place) (rw c.deref-2.ensures.value at c.find_seam-last.ensures.place) (c.len.ensures ∙ c.args.entries.now.ok.0) c.chunk_end-end.ensures.next c.chunk_end-end.ensures.last c.in_ok-put_chunks.ensures.ok (rw c.deref-4.ensures.value at c.in_ok-fresh.ensures.lines) c.requires.summed

pub sum_from-requires-clause-few : goal.sum_from-requires-clause-few
sum_from-requires-clause-few c = put_few c.args.entries.now.items _ c.in_ok-fresh.fresh.items (all_of (chunks_of c.args.new.now)) c.args.start c.args.count _ _ _ _ c.chunk_end-end.result _ (rw c.deref.ensures.value at c.find_seam-first.ensures.place) (rw c.deref-2.ensures.value at c.find_seam-last.ensures.place) (c.len.ensures ∙ c.args.entries.now.ok.0) c.chunk_end-end.ensures.next c.chunk_end-end.ensures.last c.in_ok-put_chunks.ensures.ok (rw c.deref-4.ensures.value at c.in_ok-fresh.ensures.lines) c.requires.within c.requires.few_new

pub returns-clause-filled : goal.returns-clause-filled
returns-clause-filled c = λ filled. rw c.sum_from.ensures.chunks (put_filled c.args.entries.now.items _ c.in_ok-fresh.fresh.items (all_of (chunks_of c.args.new.now)) c.args.start c.args.count _ _ _ _ c.chunk_end-end.result _ (rw c.deref.ensures.value at c.find_seam-first.ensures.place) (rw c.deref-2.ensures.value at c.find_seam-last.ensures.place) (c.len.ensures ∙ c.args.entries.now.ok.0) c.chunk_end-end.ensures.next c.chunk_end-end.ensures.last c.in_ok-put_chunks.ensures.ok (rw c.deref-4.ensures.value at c.in_ok-fresh.ensures.lines) c.in_ok-fresh.ensures.filled filled)

pub returns-clause-ok : goal.returns-clause-ok
returns-clause-ok c = ap all_of c.sum_from.ensures.chunks ∙ lines_put c.args.entries.now.items _ c.in_ok-fresh.fresh.items (all_of (chunks_of c.args.new.now)) c.args.start c.args.count _ _ _ _ c.chunk_end-end.result _ (rw c.deref.ensures.value at c.find_seam-first.ensures.place) (rw c.deref-2.ensures.value at c.find_seam-last.ensures.place) (c.len.ensures ∙ c.args.entries.now.ok.0) c.chunk_end-end.ensures.next c.chunk_end-end.ensures.last c.in_ok-put_chunks.ensures.ok (rw c.deref-4.ensures.value at c.in_ok-fresh.ensures.lines)

pub returns-clause-made : goal.returns-clause-made
returns-clause-made c = λ some. record {
  from = c.find_seam-first.result.0;
  to = c.chunk_end-end.result;
  made = chunks_of c.in_ok-fresh.fresh.items;
  new_is = c.sum_from.ensures.chunks ∙ chunks_put c.args.entries.now.items c.in_ok-fresh.fresh.items c.find_seam-first.result.0 c.chunk_end-end.result c.in_ok-put_chunks.ensures.ok;
  least = c.limit_of-limit.result;
  half = c.limit_of-limit.ensures.half;
  full = c.in_ok-fresh.ensures.full;
}
