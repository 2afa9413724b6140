use Rattle.re_match.proofs.strings.StringsSweeps.sweep.Goals as goal

pub returns-clause-passes : goal.returns-clause-passes
returns-clause-passes c = rw (← c.self.view_is) (c.first_line-sweep.ensures.passes c.self.inside.whole)

pub returns-clause-stops : goal.returns-clause-stops
returns-clause-stops c = rw (← c.self.view_is) (c.first_line-sweep.ensures.stops c.self.inside.whole)
