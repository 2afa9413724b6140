use Rattle.{grep_live.proofs.{Prelude.arith, lemmas.ChangesLemmas.{listed_none, listed_one, listed_stops, listed_all}}, grep_session.proofs.lemmas.Writing.writes_err}
use Rattle.grep_live.proofs.change_rows.write_hits.Goals as goal

pub loop-found-init : goal.loop-found-init
loop-found-init g c = record {
  in_order = c.requires.in_order;
  lists = listed_none c.args.form.has_text c.args.session.now.inputs c.args.stretch.k _ c.args.stretch.to g.W.CountedWrite.contents g.W.CountedWrite.failures c.args.form.margin.now _;
}

pub returns-in_err-write_hit_row : goal.returns-in_err-write_hit_row
returns-in_err-write_hit_row g c =
    let found = c.in-Some.found in
    λ es meant all hits.
    let s = c.loop-found.invariant.lists es meant all hits in
    let f = c.in-Some.ensures.first es meant s.left s.are_left in
    writes_err g.W.CountedWrite.contents g.W.CountedWrite.failures c.args.form.margin.now _ _ _ c.from_residual.result c.from_residual.ensures.0
    (listed_stops _ c.args.session.now.inputs c.args.stretch.k c.args.stretch.from c.args.stretch.to g.W.CountedWrite.contents g.W.CountedWrite.failures _ es _ _ _ _ s _ _ _ f _ c.in_err-write_hit_row.ensures)

pub loop-found-preserved : goal.loop-found-preserved
loop-found-preserved g c =
    let found = c.in-Some.found in
    record {
      in_order = omega (arith, c.in-Some.ensures.within.1);
      lists =
          (λ es meant all hits.
          let s = c.loop-found.invariant.lists es meant all hits in
          let f = c.in-Some.ensures.first es meant s.left s.are_left in
          listed_one _ c.args.session.now.inputs c.args.stretch.k c.args.stretch.from c.args.stretch.to g.W.CountedWrite.contents g.W.CountedWrite.failures _ es _ _ _ _ s _ _ _ f _ c.in_ok-write_hit_row.ensures);
    }

pub returns : goal.returns
returns g c = λ es meant all hits.
    let s = c.loop-found.invariant.lists es meant all hits in
    listed_all _ c.args.session.now.inputs c.args.stretch.k c.args.stretch.from c.args.stretch.to g.W.CountedWrite.contents g.W.CountedWrite.failures _ es _ _ _ c.loop-found.from s (c.in_default.ensures.first es meant s.left s.are_left)
