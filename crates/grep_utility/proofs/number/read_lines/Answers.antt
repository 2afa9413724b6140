use Rattle.grep_utility.proofs.{Prelude.{◌≡◌, None, ◌∙◌, rules}, lemmas.NumberLemmas.{lines_none, lines_some}}
use Rattle.grep_utility.proofs.number.read_lines.Goals as goal

pub returns-in_err-value : goal.returns-in_err-value
returns-in_err-value c =
    let none : c.from_residual.result ≡ None = search rules in
    none ∙ lines_none c.args.word.now (search rules)

pub returns : goal.returns
returns c = lines_some c.args.word.now c.in_ok-value.value _ (search rules) (search rules)
