use Rattle.re_match.proofs.strings.StringsLineMatch.find.Goals as goal

pub returns-clause-reported : goal.returns-clause-reported
returns-clause-reported c = rw (← c.self.view_is) c.occurrence-found.ensures.reported
