use Rattle.grep_utility.proofs.{Prelude.{◌≡◌, None, ◌∙◌, rules}, lemmas.NumberLemmas.{number_none, number_large, number_some}}
use Rattle.grep_utility.proofs.number.read_number.Goals as goal

pub returns-in_err-value : goal.returns-in_err-value
returns-in_err-value c =
    let none : c.from_residual.result ≡ None = search rules in
    none ∙ number_none c.args.word.now (search rules)

pub returns-then-value-gt-MOST : goal.returns-then-value-gt-MOST
returns-then-value-gt-MOST c = number_large c.args.word.now c.in_ok-value.value (search rules) (search rules)

pub returns : goal.returns
returns c = number_some c.args.word.now c.in_ok-value.value (search rules) (search rules)
