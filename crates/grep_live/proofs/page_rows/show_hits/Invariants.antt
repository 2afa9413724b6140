use Rattle.grep_live.proofs.{Prelude.◌≤◌, lemmas.PageLemmas.Shows}
use Rattle.grep_live.proofs.page_rows.show_hits.Given as goal

-- the hits before this place were written
abbrev pub invariant-loop-shown : goal.invariant-loop-shown
invariant-loop-shown g l = record {
  in_order : l.from ≤ l.stretch.to;
  shows : Shows l.form.has_text l.session.inputs l.stretch.k l.stretch.from l.stretch.to l.left g.W.CountedWrite.contents g.W.CountedWrite.failures l.form.margin.now l.fn.out l.out l.from l.shown;
}
