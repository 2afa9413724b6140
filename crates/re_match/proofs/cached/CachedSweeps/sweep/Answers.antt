use Rattle.re_match.proofs.Prelude.{expression_of}
use Rattle.re_match.proofs.cached.CachedSweeps.sweep.Goals as goal

pub returns-clause-passes : goal.returns-clause-passes
returns-clause-passes c = rw (← c.self.view_is) (c.sweep.ensures.passes (expression_of c.self.inside.automaton) c.self.invariant.2)
