use Rattle.grep_core.proofs.options.Options.shown_around.Goals as goal

pub returns-in-Nothing : goal.returns-in-Nothing
returns-in-Nothing c = rw (← c.in-Nothing.ensures) tt

pub returns-in-Names : goal.returns-in-Names
returns-in-Names c = rw (← c.in-Names.ensures) tt

pub returns-in-Counts : goal.returns-in-Counts
returns-in-Counts c = rw (← c.in-Counts.ensures) tt

pub returns-in-Parts : goal.returns-in-Parts
returns-in-Parts c = rw (← c.in-Parts.ensures) tt

pub returns-in-Lines : goal.returns-in-Lines
returns-in-Lines c = rw (← c.in-Lines.ensures) tt
