use Rattle.grep_core.proofs.{Prelude.{◌≡◌, ◌+◌, ◌∷◌, [], length, refl, ap, arith, length-append, expressions_of}, lemmas.{CostLaws.{searched_bytes, searched_bytes_and_parts}, OneLineLemmas.is_err, SearchedBlockLemmas.{rows_unselected, rows_matched, stretch_inverted, selected_matched, unselected_unmatched}, WaitingRows.if_kept, WriterLaws.TakesAll-nothing, WrittenLemmas.{TakesAll-written, TakesFront-written}}}
use Rattle.grep_core.proofs.search.held.write_searched.Goals as goal

pub returns-in_default-clause-ok : goal.returns-in_default-clause-ok
returns-in_default-clause-ok g c = λ before all d.
    let w = c.args.request.now in
    let es = expressions_of c.args.matchers.now in
    let same = rw c.in_default.is at d.next in
    let none = unselected_unmatched es w.options c.if-request.false before d.none in
    record { rows = []; are_rows = rw same (rows_unselected _ w.options _ _ _ before none); wrote = TakesAll-nothing _ }

pub returns-in_default-clause-steps : goal.returns-in_default-clause-steps
returns-in_default-clause-steps g c = λ before all d began few.
    searched_bytes c.args.request.now.options _ all few

pub returns-then-request-clause-steps : goal.returns-then-request-clause-steps
returns-then-request-clause-steps g c = λ before all d began few.
    searched_bytes c.args.request.now.options _ all few

pub returns-in_err-push_all-clause-steps : goal.returns-in_err-push_all-clause-steps
returns-in_err-push_all-clause-steps g c = λ before all d began few.
    searched_bytes c.args.request.now.options _ all few

pub returns-then-request-clause-ok : goal.returns-then-request-clause-ok
returns-then-request-clause-ok g c = λ before all d.
    let w = c.args.request.now in
    let es = expressions_of c.args.matchers.now in
    let (rows, are, bytes) = stretch_inverted d es w.options refl w.many w.name.now c.if-request.true (c.args.number + 1) (c.requires.bare c.if-request.true) in
    record { rows = rows; are_rows = rw (← d.many) at are; wrote = TakesAll-written rows (rw bytes at c.in_ok-push_all.ensures) }

pub returns-in_err-push_all-clause-err : goal.returns-in_err-push_all-clause-err
returns-in_err-push_all-clause-err g c = λ before all d.
    let w = c.args.request.now in
    let es = expressions_of c.args.matchers.now in
    let (rows, are, bytes) = stretch_inverted d es w.options refl w.many w.name.now c.if-request.true (c.args.number + 1) (c.requires.bare c.if-request.true) in
    let unsent = rw bytes at c.in_err-push_all.ensures in
    rw (is_err _ c.from_residual.ensures.1) (record { rows = rows; found = length before; are_rows = are; wrote = TakesFront-written rows unsent; counted = unsent.counted })

pub returns-clause-ok : goal.returns-clause-ok
returns-clause-ok g c = λ before all d.
    let w = c.args.request.now in
    let es = expressions_of c.args.matchers.now in
    let line = c.in-Some.line.now in
    let (holds, same) = rw c.in-Some.is at d.next in
    let last : c.args.stretch.now.count ≡ length before + 1 = omega (arith, d.counted, ap length same, length-append before (line ∷ [])) in
    let none = unselected_unmatched es w.options c.if-request.false before d.none in
    let selected = selected_matched es w.options c.if-request.false line holds in
    let went = c.in_ok-write_selected.ensures.ok in
    record { rows = went.rows; are_rows = rw same (rows_matched _ w.options _ _ _ before line went.rows none selected (c.args.number + c.args.stretch.now.count) (omega (arith, last)) went.are_rows); wrote = went.wrote }

pub returns-in_err-write_selected-clause-err : goal.returns-in_err-write_selected-clause-err
returns-in_err-write_selected-clause-err g c = λ before all d.
    let w = c.args.request.now in
    let es = expressions_of c.args.matchers.now in
    let line = c.in-Some.line.now in
    let (holds, same) = rw c.in-Some.is at d.next in
    let last : c.args.stretch.now.count ≡ length before + 1 = omega (arith, d.counted, ap length same, length-append before (line ∷ [])) in
    let none = unselected_unmatched es w.options c.if-request.false before d.none in
    let selected = selected_matched es w.options c.if-request.false line holds in
    let went = c.in_err-write_selected.ensures.err in
    rw (is_err c.from_residual-in_err-write_selected.result c.from_residual-in_err-write_selected.ensures.1)
    (record { rows = went.rows; found = 1; are_rows = rw same (rows_matched _ w.options _ _ _ before line went.rows none selected (c.args.number + c.args.stretch.now.count) (omega (arith, last)) went.are_rows); wrote = went.wrote; counted = went.counted })

pub returns-clause-steps : goal.returns-clause-steps
returns-clause-steps g c = λ before all d began few.
    let line = c.in-Some.line.now in
    let (holds, same) = rw c.in-Some.is at d.next in
    rw same (searched_bytes_and_parts c.args.request.now.options _ before line (rw same at few) c.write_selected.ensures.steps)

pub returns-in_err-write_selected-clause-steps : goal.returns-in_err-write_selected-clause-steps
returns-in_err-write_selected-clause-steps g c = λ before all d began few.
    let line = c.in-Some.line.now in
    let (holds, same) = rw c.in-Some.is at d.next in
    rw same (searched_bytes_and_parts c.args.request.now.options _ before line (rw same at few) c.write_selected.ensures.steps)

pub returns-then-is_err-clause-steps : goal.returns-then-is_err-clause-steps
returns-then-is_err-clause-steps g c = λ before all d began few.
    searched_bytes c.args.request.now.options _ all few

pub write_selected-requires-clause-room : goal.write_selected-requires-clause-room
write_selected-requires-clause-room g c = if_kept _ c.is_err.ensures.value c.if-is_err.false c.make_room.ensures
