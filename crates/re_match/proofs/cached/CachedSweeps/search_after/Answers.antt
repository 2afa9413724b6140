use Rattle.re_steps.proofs.lemmas.StageLaws.{searches_say, searches_steps}
use Rattle.re_match.proofs.cached.CachedSweeps.search_after.Goals as goal

pub returns-in-Seen-clause-reported : goal.returns-in-Seen-clause-reported
returns-in-Seen-clause-reported c = searches_say c.args.self.now.whole c.searched.ensures.searches

pub returns-in-Seen-clause-steps : goal.returns-in-Seen-clause-steps
returns-in-Seen-clause-steps c = rw c.in-Seen.is (searches_steps c.searched.ensures.searches)
