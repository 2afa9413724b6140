use Rattle.grep_live.proofs.{Prelude.{◌-◌, ◌≤◌}, lemmas.ChangesLemmas.Lists}
use Rattle.grep_live.proofs.change_rows.write_hits.Given as goal

-- the hits before this place were written
abbrev pub invariant-loop-found : goal.invariant-loop-found
invariant-loop-found g l = record {
  in_order : l.from ≤ l.stretch.to;
  lists : Lists l.form.has_text l.session.inputs l.stretch.k l.stretch.from l.stretch.to g.W.CountedWrite.contents g.W.CountedWrite.failures l.form.margin.now l.fn.out l.out l.from;
}

abbrev pub decreases-loop-found : goal.decreases-loop-found
decreases-loop-found g l = l.stretch.to - l.from
