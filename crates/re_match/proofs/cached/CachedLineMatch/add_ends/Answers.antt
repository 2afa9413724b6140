use Rattle.{re_match.proofs.{Prelude.{◌+◌, expression_of}, lemmas.{StepSums.walked_adds, WindowLaws.ends_of_window}}, re_ends.proofs.lemmas.FoundEnds.matched_found}
use Rattle.re_match.proofs.cached.CachedLineMatch.add_ends.Goals as goal

pub add_ends-requires-clause-border : goal.add_ends-requires-clause-border
add_ends-requires-clause-border c = rw (← c.self.view_is) at c.requires.window.1

pub returns-clause-added : goal.returns-clause-added
returns-clause-added c =
    ends_of_window _ _ _ _ _ c.requires.window _ _ c.requires.ends (λ i m lt. matched_found (expression_of c.args.self.now.tree) c.args.line.now (c.args.window.start + i) m) (rw (← c.self.view_is) c.add_ends.ensures.added)

pub returns-clause-steps : goal.returns-clause-steps
returns-clause-steps c = walked_adds _ c.add_ends.ensures.counted
