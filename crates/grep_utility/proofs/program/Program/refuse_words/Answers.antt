use Rattle.grep_utility.proofs.lemmas.ReportingLemmas.{reports_lines}
use Rattle.grep_utility.proofs.program.Program.refuse_words.Goals as goal

pub returns-clause-reported : goal.returns-clause-reported
returns-clause-reported g c = reports_lines g.M.CountedWrite.contents g.M.CountedWrite.failures _ _ _ c.write_words_refused.result c.write_words_refused.ensures
