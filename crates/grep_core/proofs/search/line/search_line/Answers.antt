use Rattle.{re_search.proofs.lemmas.KeptMatchers.{same_over, still_alike}, grep_core.proofs.lemmas.{CostLaws.{line_asked, searched_once}, OneLineLemmas.{is_err, line_broken, line_passed, line_selected}, WaitingRows.if_kept}}
use Rattle.grep_core.proofs.search.line.search_line.Goals as goal

pub returns-then-not-is_selected-clause-ok : goal.returns-then-not-is_selected-clause-ok
returns-then-not-is_selected-clause-ok g c =
    line_passed _ _ _ _ _ _ _ _ c.if-not-is_selected.true c.is_selected.ensures.reported

pub returns-then-not-is_selected-clause-steps : goal.returns-then-not-is_selected-clause-steps
returns-then-not-is_selected-clause-steps g c =
    searched_once c.args.request.now.options _ _ c.is_selected.ensures.steps

pub returns-clause-ok : goal.returns-clause-ok
returns-clause-ok g c =
    line_selected c.if-not-is_selected.false c.is_selected.ensures.reported
    c.is_selected.ensures.same.same_expressions c.in_ok-write_selected.ensures.ok

pub returns-in_err-write_selected-clause-err : goal.returns-in_err-write_selected-clause-err
returns-in_err-write_selected-clause-err g c =
    rw (is_err _ c.from_residual.ensures.1)
    (line_broken c.if-not-is_selected.false c.is_selected.ensures.reported
    c.is_selected.ensures.same.same_expressions c.in_err-write_selected.ensures.err)

pub returns-clause-same : goal.returns-clause-same
returns-clause-same g c = same_over c.write_selected.ensures.same c.is_selected.ensures.same

pub returns-in_err-write_selected-clause-same : goal.returns-in_err-write_selected-clause-same
returns-in_err-write_selected-clause-same g c = same_over c.write_selected.ensures.same c.is_selected.ensures.same

pub returns-clause-steps : goal.returns-clause-steps
returns-clause-steps g c =
    line_asked c.args.request.now.options c.args.line.now
    c.is_selected.ensures.same.same_expressions c.is_selected.ensures.steps c.write_selected.ensures.steps

pub returns-in_err-write_selected-clause-steps : goal.returns-in_err-write_selected-clause-steps
returns-in_err-write_selected-clause-steps g c =
    line_asked c.args.request.now.options c.args.line.now
    c.is_selected.ensures.same.same_expressions c.is_selected.ensures.steps c.write_selected.ensures.steps

pub write_selected-requires : goal.write_selected-requires
write_selected-requires g c = record { alike = still_alike c.is_selected.ensures.same c.requires.alike; room = if_kept _ c.is_err.ensures.value c.if-is_err.false c.make_room.ensures }

pub returns-then-is_err-clause-steps : goal.returns-then-is_err-clause-steps
returns-then-is_err-clause-steps g c =
    searched_once c.args.request.now.options _ _ c.is_selected.ensures.steps
