use Rattle.re_strings.proofs.leaps.Leaps.near_shift.Goals as goal

pub returns-then-shift-gt0-clause-none : goal.returns-then-shift-gt0-clause-none
returns-then-shift-gt0-clause-none c = λ strings a b. c.shift-shift.ensures.none strings a

pub returns-clause-none : goal.returns-clause-none
returns-clause-none c = λ strings a b. c.shift.ensures.none strings b
