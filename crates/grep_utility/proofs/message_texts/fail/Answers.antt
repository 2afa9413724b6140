use Rattle.grep_utility.proofs.lemmas.ReportingLemmas.{reports_line}
use Rattle.grep_utility.proofs.message_texts.fail.Goals as goal

pub returns-clause-reported : goal.returns-clause-reported
returns-clause-reported g c = reports_line g.M.CountedWrite.contents g.M.CountedWrite.failures _ _ _ c.write_line.result c.write_line.ensures
