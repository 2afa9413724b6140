use Rattle.re_trees.proofs.{Prelude.{◌≡◌, ◌+◌, ◌-◌, ◌<◌, [], ◌∷◌, length, take, drop, rules, arith, sym, ap, ◌∙◌, add-one, take_rest, lines_of}, lemmas.SplittingLaws.{lines_of-at, lines_of-none, lines_of-empty, lines_of-beyond}}
use Rattle.re_trees.proofs.split.FilePatternsIterator.next.Goals as goal

-- nothing is left
nothing_left : (c : goal.Then-is_empty) → c.args.self.now ≡ []
nothing_left c = sym c.self.view_is ∙ lines_of-empty c.self.inside.rest.now (search rules)

pub returns-then-is_empty-clause-steps : goal.returns-then-is_empty-clause-steps
returns-then-is_empty-clause-steps c = (nothing_left c, nothing_left c)

-- the line ends at the first newline
at_newline : (c : goal.After-self-in-Some-1) → c.args.self.now ≡ take c.in-Some.at c.self.inside.rest.now ∷ lines_of (take (length c.self.inside.rest.now - (c.in-Some.at + 1)) (drop (c.in-Some.at + 1) c.self.inside.rest.now))
at_newline c = sym c.self.view_is ∙ lines_of-at c.self.inside.rest.now c.in-Some.at (search rules) (search rules) (search rules) ∙ simp (take_rest, add-one)

pub returns-in-Some-clause-steps : goal.returns-in-Some-clause-steps
returns-in-Some-clause-steps c = at_newline c

pub returns-in-Some-clause-goes : goal.returns-in-Some-clause-goes
returns-in-Some-clause-goes c = record { on = λ _. (tt, tt, omega (arith, ap length (at_newline c))); keeps = tt; rests = λ _. tt }

-- the last line has no newline
at_end : (c : goal.After-self-in-None-2-1) →
    c.args.self.now ≡ c.self.inside.rest.now ∷ lines_of (take (length c.self.inside.rest.now - length c.self.inside.rest.now) (drop (length c.self.inside.rest.now) c.self.inside.rest.now))
at_end c =
    let full : 0 < length c.self.inside.rest.now = search rules in
    sym c.self.view_is ∙ lines_of-none c.self.inside.rest.now full (search rules) ∙ simp (take_rest, lines_of-beyond)

pub returns-in-None-clause-steps : goal.returns-in-None-clause-steps
returns-in-None-clause-steps c = at_end c

pub returns-in-None-clause-goes : goal.returns-in-None-clause-goes
returns-in-None-clause-goes c = record { on = λ _. (tt, tt, omega (arith, ap length (at_end c))); keeps = tt; rests = λ _. tt }
