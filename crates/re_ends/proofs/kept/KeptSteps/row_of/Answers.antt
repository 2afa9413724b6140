use Rattle.re_ends.proofs.Prelude.{expression_of}
use Rattle.re_ends.proofs.kept.KeptSteps.row_of.Goals as goal

pub find-requires : goal.find-requires
find-requires c = (expression_of c.args.automaton.now, c.requires.sound)

pub returns-in-Some-clause-sound : goal.returns-in-Some-clause-sound
returns-in-Some-clause-sound c = (c.requires.sound, c.in-Some.ensures)
