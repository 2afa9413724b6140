use Rattle.script_commands.proofs.{Prelude.{◌≡◌, ◌+◌, ◌-◌, [], ◌∷◌, length, take, drop, rules, arith, sym, ap, ◌∙◌, add-one, take_rest, words_of, words_of_rest}, lemmas.ScriptWords.{words_of-at, words_of-none}}
use Rattle.script_commands.proofs.line_words.LineWordsIterator.next.Goals as goal

-- the word ends at the first space
at_space : (c : goal.After-self-in-Some-1) → c.args.self.now ≡ take c.in-Some.at c.in_ok-rest.rest.now ∷ words_of (take (length c.in_ok-rest.rest.now - (c.in-Some.at + 1)) (drop (c.in-Some.at + 1) c.in_ok-rest.rest.now))
at_space c =
    sym c.self.view_is ∙ ap words_of_rest c.in_ok-rest.was ∙ words_of-at c.in_ok-rest.rest.now c.in-Some.at (search rules) (search rules) (search rules) ∙ simp (take_rest, add-one)

at_end : (c : goal.After-self-in-None-1) → c.args.self.now ≡ c.in_ok-rest.rest.now ∷ []
at_end c = sym c.self.view_is ∙ ap words_of_rest c.in_ok-rest.was ∙ words_of-none c.in_ok-rest.rest.now (search rules)

pub returns-in-Some-clause-steps : goal.returns-in-Some-clause-steps
returns-in-Some-clause-steps c = at_space c

pub returns-in-Some-clause-goes : goal.returns-in-Some-clause-goes
returns-in-Some-clause-goes c = record { on = λ _. (tt, tt, omega (arith, ap length (at_space c))); keeps = tt; rests = λ _. tt }

pub returns-in-None-clause-steps : goal.returns-in-None-clause-steps
returns-in-None-clause-steps c = at_end c

pub returns-in-None-clause-goes : goal.returns-in-None-clause-goes
returns-in-None-clause-goes c = record { on = λ _. (tt, tt, omega (arith, ap length (at_end c))); keeps = tt; rests = λ _. tt }
