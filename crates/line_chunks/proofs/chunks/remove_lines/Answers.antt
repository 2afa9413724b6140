use Rattle.line_chunks.proofs.{Prelude.{arith, rules, ◌<◌, length}, lemmas.{Joins.{out_of_one, out_of_many, seams_in_order}, Sums.{length-chunks_of, summed_to}, Edits.{filled_around, filled_beside}}}
use Rattle.line_chunks.proofs.chunks.remove_lines.Goals as goal

pub returns-then-first-last-clause-lines : goal.returns-then-first-last-clause-lines
returns-then-first-last-clause-lines c =
    let inside : c.find_seam-first.result.0 < length c.args.entries.now.items = search rules in
    out_of_one _ c.args.start c.args.count _ _ _ _ (rw c.deref.ensures.value at c.find_seam-first.ensures.place) (rw c.deref-2.ensures.value at c.find_seam-last.ensures.place) c.if-first-last.true (omega (arith, length-chunks_of c.args.entries.now.items)) c.remove_at.ensures.chunks

pub returns-then-first-last-clause-filled : goal.returns-then-first-last-clause-filled
returns-then-first-last-clause-filled c = filled_beside _ c.find_seam-first.result.0 _ c.remove_at.ensures.chunks

pub returns-clause-filled : goal.returns-clause-filled
returns-clause-filled c =
    let inside : c.find_seam-first.result.0 < length c.args.entries.now.items = search rules in
    filled_around _ c.find_seam-first.result.0 c.find_seam-last.result.0 _ _ (omega (arith, length-chunks_of c.args.entries.now.items)) c.remove_between.ensures.chunks

pub returns-then-first-last-clause-summed : goal.returns-then-first-last-clause-summed
returns-then-first-last-clause-summed c =
    let inside : c.find_seam-first.result.0 < length c.args.entries.now.items = search rules in
    c.remove_at.ensures.summed c.find_seam-first.result.0 (omega arith) (summed_to _ _ (omega arith) c.requires.summed)

pub remove_between-requires-clause-in_order : goal.remove_between-requires-clause-in_order
remove_between-requires-clause-in_order c = omega (arith, seams_in_order (rw c.deref.ensures.value at c.find_seam-first.ensures.place) (rw c.deref-2.ensures.value at c.find_seam-last.ensures.place) (omega arith) c.find_seam-first.ensures.first c.find_seam-first.ensures.after)

pub returns-clause-lines : goal.returns-clause-lines
returns-clause-lines c = out_of_many _ c.args.start c.args.count _ _ _ _ (rw c.deref.ensures.value at c.find_seam-first.ensures.place) (rw c.deref-2.ensures.value at c.find_seam-last.ensures.place) _ c.remove_between.ensures.chunks

pub returns-clause-summed : goal.returns-clause-summed
returns-clause-summed c =
    let inside : c.find_seam-first.result.0 < length c.args.entries.now.items = search rules in
    c.remove_between.ensures.summed (summed_to _ _ (omega arith) c.requires.summed)
