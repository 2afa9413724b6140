use Rattle.grep_live.proofs.lemmas.ChangesLemmas.{ReportedUpTo}
use Rattle.grep_live.proofs.change_rows.write_changes.Given as goal

abbrev pub invariant-loop-k : goal.invariant-loop-k
invariant-loop-k g l = ReportedUpTo l.form.has_text l.session.inputs l.marks g.W.CountedWrite.contents g.W.CountedWrite.failures l.form.margin.now l.fn.out l.out l.k
