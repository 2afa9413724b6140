use Rattle.{grep_utility.proofs.{Prelude.{◌≡◌, [], None, ap, ◌∙◌, rules, by_characters}, lemmas.TokenLemmas.{word_of-other, by_characters-operand, group_found}}, std.specs.Str.chars}
use Rattle.grep_utility.proofs.words.tokens.group_of.Goals as goal

pub returns-in_err-first : goal.returns-in_err-first
returns-in_err-first c =
    let none : c.from_residual.result ≡ None = search rules in
    let empty : chars c.args.word.now ≡ [] = search rules in
    rw none (word_of-other c.args.word.now c.requires ∙ ap by_characters empty)

pub returns-then-first-ne45 : goal.returns-then-first-ne45
returns-then-first-ne45 c =
    word_of-other c.args.word.now c.requires ∙ ap by_characters c.in_ok-first.ensures ∙ by_characters-operand c.in_ok-first.first (chars c.in_ok-first.letters.now) (search rules)

pub returns : goal.returns
returns c = group_found _ _ _ c.split_first_char-2.result (word_of-other c.args.word.now c.requires ∙ ap by_characters c.in_ok-first.ensures) (search rules) c.split_first_char-2.ensures
