use Rattle.{grep_live.proofs.{Prelude.arith, lemmas.PageLemmas.{shown_none, shown_one, shown_stops, shown_all, shown_rest, full_all, full_rest}}, grep_session.proofs.lemmas.Writing.writes_err}
use Rattle.grep_live.proofs.page_rows.show_hits.Goals as goal

pub loop-shown-init : goal.loop-shown-init
loop-shown-init g c = record {
  in_order = c.requires.in_order;
  shows = shown_none c.args.form.has_text c.args.session.now.inputs c.args.stretch.k _ c.args.stretch.to c.args.left g.W.CountedWrite.contents g.W.CountedWrite.failures c.args.form.margin.now _;
}

pub returns-in_default-clause-wrote : goal.returns-in_default-clause-wrote
returns-in_default-clause-wrote g c =
    λ es meant all hits.
    let s = c.loop-shown.invariant.shows es meant all hits in
    shown_all _ c.args.session.now.inputs _ c.args.stretch.from c.args.stretch.to _ g.W.CountedWrite.contents g.W.CountedWrite.failures _ es _ _ _ c.loop-shown.from c.loop-shown.shown s (c.in_default.ensures.first es meant s.rest s.are_rest)

pub returns-in_default-clause-rest : goal.returns-in_default-clause-rest
returns-in_default-clause-rest g c =
    λ es meant all hits.
    let s = c.loop-shown.invariant.shows es meant all hits in
    shown_rest c.args.form.has_text c.args.session.now.inputs c.args.stretch.k c.args.stretch.from c.args.stretch.to _ g.W.CountedWrite.contents g.W.CountedWrite.failures c.args.form.margin.now es _ c.args.out.now c.loop-shown.out c.loop-shown.from _ s (c.in_default.ensures.first es meant s.rest s.are_rest)

pub returns-in_err-write_hit_row-clause-wrote : goal.returns-in_err-write_hit_row-clause-wrote
returns-in_err-write_hit_row-clause-wrote g c =
    let found = c.in-Some.found in
    λ es meant all hits.
    let s = c.loop-shown.invariant.shows es meant all hits in
    let f = c.in-Some.ensures.first es meant s.rest s.are_rest in
    writes_err g.W.CountedWrite.contents g.W.CountedWrite.failures c.args.form.margin.now _ _ _ c.from_residual.result c.from_residual.ensures.0
    (shown_stops _ c.args.session.now.inputs _ c.args.stretch.from c.args.stretch.to _ g.W.CountedWrite.contents g.W.CountedWrite.failures _ es _ _ _ _ c.loop-shown.shown s _ _ _ f c.loop-shown-test.true _ c.in_err-write_hit_row.ensures)

pub loop-shown-preserved : goal.loop-shown-preserved
loop-shown-preserved g c =
    let found = c.in-Some.found in
    record {
      in_order = omega (arith, c.in-Some.ensures.within.1);
      shows =
          (λ es meant all hits.
          let s = c.loop-shown.invariant.shows es meant all hits in
          let f = c.in-Some.ensures.first es meant s.rest s.are_rest in
          shown_one _ c.args.session.now.inputs _ c.args.stretch.from c.args.stretch.to c.args.left g.W.CountedWrite.contents g.W.CountedWrite.failures _ es _ _ _ _ _ s _ _ _ f c.loop-shown-test.true _ c.in_ok-write_hit_row.ensures);
    }

pub returns-clause-wrote : goal.returns-clause-wrote
returns-clause-wrote g c = λ es meant all hits. full_all c.args.form.has_text c.args.session.now.inputs c.args.stretch.k c.args.stretch.from c.args.stretch.to c.args.left g.W.CountedWrite.contents g.W.CountedWrite.failures c.args.form.margin.now es all c.args.out.now c.loop-shown.out c.loop-shown.from c.loop-shown.shown (c.loop-shown.invariant.shows es meant all hits) c.loop-shown-test.false

pub returns-clause-rest : goal.returns-clause-rest
returns-clause-rest g c = λ es meant all hits. full_rest c.args.form.has_text c.args.session.now.inputs c.args.stretch.k c.args.stretch.from c.args.stretch.to c.args.left g.W.CountedWrite.contents g.W.CountedWrite.failures c.args.form.margin.now es all c.args.out.now c.loop-shown.out c.loop-shown.from c.loop-shown.shown (c.loop-shown.invariant.shows es meant all hits) c.loop-shown-test.false
