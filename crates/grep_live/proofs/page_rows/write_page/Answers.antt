use Rattle.{grep_live.proofs.{Prelude.{[], arith, get_or, length, ◌<◌, ◌≤◌, page_rows, all_hits}, lemmas.PageLemmas.{hits_at, view_long, paged_on, paged_stops, paged_all}}, grep_session.proofs.lemmas.Writing.{none_written, writes_err}}
use Rattle.grep_live.proofs.page_rows.write_page.Goals as goal

pub loop-k-init : goal.loop-k-init
loop-k-init g c = λ es meant view are. none_written g.W.CountedWrite.contents g.W.CountedWrite.failures c.args.form.margin.now c.args.out.now (page_rows c.args.form.has_text c.args.first c.args.count (all_hits 0 view))

pub returns-in_err-show_file : goal.returns-in_err-show_file
returns-in_err-show_file g c =
    let session = c.args.session.now.inputs in
    let k = c.loop-k.k in
    λ es meant view are.
    let there : k < length session.files = omega (arith, c.loop-k-test.true, c.file_count-k-end.ensures) in
    let inside : k < length view = omega (arith, view_long es session view are) in
    let hits = hits_at es session view k there are in
    writes_err g.W.CountedWrite.contents g.W.CountedWrite.failures c.args.form.margin.now _ _ _ c.from_residual.result c.from_residual.ensures.0
    (paged_stops c.args.form.has_text g.W.CountedWrite.contents g.W.CountedWrite.failures c.args.form.margin.now c.args.first c.args.count view c.args.out.now c.loop-k.out c.show_file.new.out k c.loop-k.page.skip c.loop-k.page.left inside (c.loop-k.invariant es meant view are) (c.in_err-show_file.ensures.wrote es meant (get_or view k []) hits))

pub loop-k-preserved : goal.loop-k-preserved
loop-k-preserved g c =
    let session = c.args.session.now.inputs in
    let k = c.loop-k.k in
    λ es meant view are.
    let there : k < length session.files = omega (arith, c.loop-k-test.true, c.file_count-k-end.ensures) in
    let inside : k < length view = omega (arith, view_long es session view are) in
    let hits = hits_at es session view k there are in
    let rest = c.in_ok-show_file.ensures.rest es meant (get_or view k []) hits in
    paged_on c.args.form.has_text g.W.CountedWrite.contents g.W.CountedWrite.failures c.args.form.margin.now c.args.first c.args.count view c.args.out.now c.loop-k.out c.show_file.new.out k c.loop-k.page.skip c.loop-k.page.left inside (c.loop-k.invariant es meant view are)
    c.show_file.new.page.skip c.show_file.new.page.left rest.0 rest.1 (c.in_ok-show_file.ensures.wrote es meant (get_or view k []) hits)

pub returns : goal.returns
returns g c =
    let session = c.args.session.now.inputs in
    λ es meant view are.
    let past : length view ≤ c.loop-k.k = omega (arith, c.loop-k-test.false, c.file_count-k-end.ensures, view_long es session view are) in
    paged_all c.args.form.has_text g.W.CountedWrite.contents g.W.CountedWrite.failures c.args.form.margin.now c.args.first c.args.count view c.args.out.now c.loop-k.out c.loop-k.out c.loop-k.k c.loop-k.page.skip c.loop-k.page.left past (c.loop-k.invariant es meant view are)
