use Rattle.line_finds.proofs.lemmas.FoundLaws.{counted}
use Rattle.line_finds.proofs.found.renew.Goals as goal

pub returns-clause-hits : goal.returns-clause-hits
returns-clause-hits c = counted c.args.matches.now c.deref.ensures.value c.count_set.ensures c.renew_marks.ensures.size c.renew_marks.ensures.marks
