use Rattle.{grep_live.proofs.{Prelude.{◌≡◌, ◌<◌, [], length, ◌∙◌, arith, get_or_default, file_at, ChangesFile, whole_mark, mark_at, changes_rows}, lemmas.{ListLemmas.{three-length, three-at}, ChangesLemmas.{reported_on, reported_stops, reported_all}}}, grep_session.proofs.lemmas.{FitLemmas.{as_many, fit_at}, Writing.{none_written, writes_err}}}
use Rattle.grep_live.proofs.change_rows.write_changes.Goals as goal

pub loop-k-init : goal.loop-k-init
loop-k-init g c = λ es meant changes are. none_written g.W.CountedWrite.contents g.W.CountedWrite.failures c.args.form.margin.now c.args.out.now (changes_rows c.args.form.has_text 0 changes)

pub write_change-requires : goal.write_change-requires
write_change-requires g c =
    let files = c.args.session.now.inputs.files in
    let marks = c.args.marks.now in
    let k = c.loop-k.k in
    let is = c.index-marks-k.is ∙ get_or_default marks k c.index-marks-k.result (whole_mark 0) c.loop-k-test.true in
    rw is (fit_at files marks c.requires k (omega (arith, c.loop-k-test.true, as_many files marks c.requires)))

pub returns-in_err-write_change : goal.returns-in_err-write_change
returns-in_err-write_change g c =
    let inputs = c.args.session.now.inputs in
    let marks = c.args.marks.now in
    let k = c.loop-k.k in
    λ es meant changes are.
    let long = three-length (ChangesFile es inputs.options) inputs.files marks changes are in
    let inside : k < length changes = omega (arith, long.1, c.loop-k-test.true) in
    let is : c.index-marks-k.result ≡ mark_at marks k = c.index-marks-k.is ∙ get_or_default marks k c.index-marks-k.result (whole_mark 0) c.loop-k-test.true in
    let change = rw (← is) at
    (three-at (ChangesFile es inputs.options) inputs.files marks changes k (file_at [] k) (whole_mark 0) [] (omega (arith, long.0, c.loop-k-test.true)) are) in
    writes_err g.W.CountedWrite.contents g.W.CountedWrite.failures c.args.form.margin.now _ _ _ c.from_residual.result c.from_residual.ensures.0
    (reported_stops c.args.form.has_text inputs marks g.W.CountedWrite.contents g.W.CountedWrite.failures c.args.form.margin.now es changes c.args.out.now c.loop-k.out c.write_change.new.out k inside (c.loop-k.invariant es meant changes are) (c.in_err-write_change.ensures es meant _ change))

pub loop-k-preserved : goal.loop-k-preserved
loop-k-preserved g c =
    let inputs = c.args.session.now.inputs in
    let marks = c.args.marks.now in
    let k = c.loop-k.k in
    λ es meant changes are.
    let long = three-length (ChangesFile es inputs.options) inputs.files marks changes are in
    let inside : k < length changes = omega (arith, long.1, c.loop-k-test.true) in
    let is : c.index-marks-k.result ≡ mark_at marks k = c.index-marks-k.is ∙ get_or_default marks k c.index-marks-k.result (whole_mark 0) c.loop-k-test.true in
    let change = rw (← is) at
    (three-at (ChangesFile es inputs.options) inputs.files marks changes k (file_at [] k) (whole_mark 0) [] (omega (arith, long.0, c.loop-k-test.true)) are) in
    reported_on c.args.form.has_text inputs marks g.W.CountedWrite.contents g.W.CountedWrite.failures c.args.form.margin.now es changes c.args.out.now c.loop-k.out c.write_change.new.out k inside (c.loop-k.invariant es meant changes are) (c.in_ok-write_change.ensures es meant _ change)

pub returns : goal.returns
returns g c =
    let inputs = c.args.session.now.inputs in
    let marks = c.args.marks.now in
    λ es meant changes are.
    let long = three-length (ChangesFile es inputs.options) inputs.files marks changes are in
    reported_all c.args.form.has_text inputs marks g.W.CountedWrite.contents g.W.CountedWrite.failures c.args.form.margin.now es changes c.args.out.now c.loop-k.out c.loop-k.k (omega (arith, long.1, c.loop-k-test.false)) (c.loop-k.invariant es meant changes are)
