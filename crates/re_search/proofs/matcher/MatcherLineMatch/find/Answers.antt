use Rattle.re_search.proofs.matcher.MatcherLineMatch.find.Goals as goal

pub returns-in-Strings-clause-reported : goal.returns-in-Strings-clause-reported
returns-in-Strings-clause-reported c = rw c.in-Strings.is c.find.ensures.reported

pub returns-in-Cached-clause-reported : goal.returns-in-Cached-clause-reported
returns-in-Cached-clause-reported c = rw c.in-Cached.is (rw c.deref_mut.ensures.value at c.find-in-Cached.ensures.reported)
