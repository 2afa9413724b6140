use Rattle.grep_utility.proofs.lemmas.ReportingLemmas.{reports_line}
use Rattle.occur.proofs.exit.refuse_script.Goals as goal

pub returns-clause-reported : goal.returns-clause-reported
returns-clause-reported g c = rw (← c.as_bytes.ensures.value)
    (reports_line g.M.CountedWrite.contents g.M.CountedWrite.failures _ _ _ c.write_cannot_open.result c.write_cannot_open.ensures)
