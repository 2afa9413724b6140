use Rattle.{grep_live.proofs.{Prelude.{◌+◌, drop, length, get_or, drop_all, Stretch, file_at}, lemmas.ChangesLemmas.{stretches_begin, next_stretch, turn_is, changed_none, changed_on, changed_stops, changed_all}}, grep_session.proofs.lemmas.Writing.writes_err}
use Rattle.grep_live.proofs.change_rows.write_change.Goals as goal

pub loop-stretch-init : goal.loop-stretch-init
loop-stretch-init g c = record {
  fits = stretches_begin c.args.session.now.inputs c.args.k c.line_count-to.result c.args.mark.now c.line_count-to.ensures c.requires;
  changes = changed_none c.args.form.has_text c.args.session.now.inputs c.args.k g.W.CountedWrite.contents g.W.CountedWrite.failures c.args.form.margin.now c.args.mark.now c.args.out.now;
}

pub loop-stretch-preserved : goal.loop-stretch-preserved
loop-stretch-preserved g c =
    let i = c.loop-stretch.stretch-index in
    let items = c.stretches-stretch-items.result.now in
    let stretches = c.args.mark.now.stretches in
    let none : Stretch = record { kept = 0; removed = 0; added = 0 } in
    let is = turn_is items stretches i none c.stretches-stretch-items.ensures c.loop-stretch-test.true in
    let lines = length (file_at c.args.session.now.inputs.files c.args.k).lines in
    let next = next_stretch lines c.loop-stretch.rest.from c.loop-stretch.rest.to (drop i stretches) (get_or items i none) (drop (i + 1) stretches) is c.loop-stretch.invariant.fits in
    record {
      fits = next.left;
      changes =
          (λ es meant all are.
          changed_on c.args.form.has_text c.args.session.now.inputs c.args.k g.W.CountedWrite.contents g.W.CountedWrite.failures c.args.form.margin.now es c.args.out.now c.loop-stretch.out c.write_stretch.new.out c.loop-stretch.rest.from (get_or items i none) (drop (i + 1) stretches) all (drop i stretches) is (c.loop-stretch.invariant.changes es meant all are) (λ hits h. c.in_ok-write_stretch.ensures es meant hits h));
    }

pub returns-in_err-write_stretch : goal.returns-in_err-write_stretch
returns-in_err-write_stretch g c =
    let i = c.loop-stretch.stretch-index in
    let items = c.stretches-stretch-items.result.now in
    let stretches = c.args.mark.now.stretches in
    let none : Stretch = record { kept = 0; removed = 0; added = 0 } in
    let is = turn_is items stretches i none c.stretches-stretch-items.ensures c.loop-stretch-test.true in
    λ es meant all are.
    writes_err g.W.CountedWrite.contents g.W.CountedWrite.failures c.args.form.margin.now _ _ _ c.from_residual.result c.from_residual.ensures.0
    (changed_stops c.args.form.has_text c.args.session.now.inputs c.args.k g.W.CountedWrite.contents g.W.CountedWrite.failures _ es _ _ _ _ _ _ _ _ is (c.loop-stretch.invariant.changes es meant all are) (λ hits h. c.in_err-write_stretch.ensures es meant hits h))

pub returns : goal.returns
returns g c =
    let i = c.loop-stretch.stretch-index in
    let stretches = c.args.mark.now.stretches in
    let past = rw c.stretches-stretch-items.ensures at c.loop-stretch-test.false in
    λ es meant all are.
    changed_all c.args.form.has_text c.args.session.now.inputs c.args.k g.W.CountedWrite.contents g.W.CountedWrite.failures c.args.form.margin.now es c.args.out.now c.loop-stretch.out c.loop-stretch.rest.from (drop i stretches) all (drop_all i stretches past) (c.loop-stretch.invariant.changes es meant all are)
