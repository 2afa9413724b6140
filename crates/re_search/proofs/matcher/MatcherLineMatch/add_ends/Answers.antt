use Rattle.re_search.proofs.matcher.MatcherLineMatch.add_ends.Goals as goal

pub add_ends-requires-clause-window : goal.add_ends-requires-clause-window
add_ends-requires-clause-window c = rw c.in-Strings.is at c.requires.window

pub add_ends-requires-in-Cached-clause-window : goal.add_ends-requires-in-Cached-clause-window
add_ends-requires-in-Cached-clause-window c = rw c.deref_mut.ensures.value (rw c.in-Cached.is at c.requires.window)

pub returns-in-Strings-clause-added : goal.returns-in-Strings-clause-added
returns-in-Strings-clause-added c = rw c.in-Strings.is c.add_ends.ensures.added

pub returns-in-Cached-clause-added : goal.returns-in-Cached-clause-added
returns-in-Cached-clause-added c = rw c.in-Cached.is (rw c.deref_mut.ensures.value at c.add_ends-in-Cached.ensures.added)
