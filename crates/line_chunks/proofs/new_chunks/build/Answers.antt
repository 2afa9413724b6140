use Rattle.line_chunks.proofs.{Prelude.{arith, ap, ◌∙◌, ◌≡◌, ◌-◌, ◌++◌, [], take, take_all, drop, get_or, length-drop, slice_range, all_of, chunks_of}, lemmas.Pieces.adds_three}
use Rattle.line_chunks.proofs.new_chunks.build.Goals as goal

pub returns-clause-filled : goal.returns-clause-filled
returns-clause-filled c =
    let front = slice_range (get_or (chunks_of c.args.entries.now) c.args.seams.first []) 0 c.args.seams.before in
    (adds_three (rw c.new-fresh.ensures.items at c.in_ok-add_part.ensures) c.in_ok-add_all.ensures c.in_ok-add_part-2.ensures).1

pub returns-clause-full : goal.returns-clause-full
returns-clause-full c =
    let front = slice_range (get_or (chunks_of c.args.entries.now) c.args.seams.first []) 0 c.args.seams.before in
    (adds_three (rw c.new-fresh.ensures.items at c.in_ok-add_part.ensures) c.in_ok-add_all.ensures c.in_ok-add_part-2.ensures).2

pub returns-clause-lines : goal.returns-clause-lines
returns-clause-lines c =
    let cs = chunks_of c.args.entries.now in
    let first = get_or cs c.args.seams.first [] in
    let last = get_or cs c.args.seams.last [] in
    let added = all_of (chunks_of c.args.new.now) in
    let before : c.args.seams.before - 0 ≡ c.args.seams.before = omega arith in
    let left = slice_range last c.args.seams.after c.size_at-size.result in
    let back = take_all (c.size_at-size.result - c.args.seams.after) (drop c.args.seams.after last)
    (omega (arith, length-drop c.args.seams.after last)) in
    (adds_three (rw c.new-fresh.ensures.items at c.in_ok-add_part.ensures) c.in_ok-add_all.ensures c.in_ok-add_part-2.ensures).0 ∙ ap (λ n. take n first ++ (added ++ left)) before ∙ ap (λ t. take c.args.seams.before first ++ (added ++ t)) back
