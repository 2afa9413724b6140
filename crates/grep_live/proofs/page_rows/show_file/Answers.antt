use Rattle.{grep_live.proofs.{Prelude.arith, lemmas.PageLemmas.shown_from}, grep_session.proofs.lemmas.Writing.writes_err}
use Rattle.grep_live.proofs.page_rows.show_file.Goals as goal

pub returns-in_err-page-clause-wrote : goal.returns-in_err-page-clause-wrote
returns-in_err-page-clause-wrote g c =
    let session = c.args.session.now.inputs in
    let k = c.args.k in
    let from = c.place_after-from.result in
    λ es meant hits are.
    let s = shown_from c.args.form.has_text es session k from c.args.page.now.skip c.args.page.now.left hits c.place_after-from.ensures.within (c.place_after-from.ensures.place es meant) are in
    let there = rw (← c.line_count-to.ensures) at s.are_shown in
    writes_err g.W.CountedWrite.contents g.W.CountedWrite.failures c.args.form.margin.now _ _ _ c.from_residual.result c.from_residual.ensures.0
    (rw s.rows (c.in_err-page.ensures.wrote es meant s.shown there))

pub returns-clause-wrote : goal.returns-clause-wrote
returns-clause-wrote g c =
    let session = c.args.session.now.inputs in
    let k = c.args.k in
    let from = c.place_after-from.result in
    λ es meant hits are.
    let s = shown_from c.args.form.has_text es session k from c.args.page.now.skip c.args.page.now.left hits c.place_after-from.ensures.within (c.place_after-from.ensures.place es meant) are in
    let there = rw (← c.line_count-to.ensures) at s.are_shown in
    rw s.rows (c.in_ok-page.ensures.wrote es meant s.shown there)

pub returns-clause-rest : goal.returns-clause-rest
returns-clause-rest g c =
    let session = c.args.session.now.inputs in
    let k = c.args.k in
    let from = c.place_after-from.result in
    λ es meant hits are.
    let s = shown_from c.args.form.has_text es session k from c.args.page.now.skip c.args.page.now.left hits c.place_after-from.ensures.within (c.place_after-from.ensures.place es meant) are in
    let there = rw (← c.line_count-to.ensures) at s.are_shown in
    (omega (arith, s.counted), omega (arith, s.counted, c.in_ok-page.ensures.rest es meant s.shown there))
