use Rattle.grep_utility.proofs.{Prelude.{◌∷◌, [], None, refl, ap, ◌∙◌, sym, rules, pieces, token_of, words_left, tokens_from}, lemmas.TokenLemmas.{group-end, group-argument, group-wants, pieces-argument, pieces-no_argument}}
use Rattle.grep_utility.proofs.words.tokens.WordTokens.option.Goals as goal

pub returns-then-not-is_empty : goal.returns-then-not-is_empty
returns-then-not-is_empty c =
    let following = pieces (words_left c.args.self.now) in
    group-argument following c.args.letter c.in-Some-Takes.argument (search rules) c.args.rest.now c.utf8.rest (search rules)
    ∙ ap (λ p. p ∷ following None) (sym c.with_argument.ensures)
    ∙ ap (λ ps. token_of c.with_argument.result ∷ ps) (sym (group-end following [] refl))

pub returns-in-Some : goal.returns-in-Some
returns-in-Some c =
    group-wants (pieces (words_left c.args.self.now)) c.args.letter c.in-Some-Takes.argument (search rules) c.args.rest.now (search rules)
    ∙ pieces-argument (words_left c.next_word.new.self) (record { letter = c.args.letter; argument = c.in-Some-Takes.argument }) c.next_word.new.self.letters _ c.in-Some.ensures.letters refl c.in-Some.word.now (words_left c.args.self.now) c.in-Some.ensures.word
    ∙ ap (λ p. p ∷ tokens_from c.next_word.new.self.letters (words_left c.next_word.new.self)) (sym c.with_argument-in-Some.ensures)

pub returns-in-None-next_word : goal.returns-in-None-next_word
returns-in-None-next_word c =
    group-wants (pieces (words_left c.args.self.now)) c.args.letter c.in-Some-Takes.argument (search rules) c.args.rest.now (search rules)
    ∙ pieces-no_argument (words_left c.next_word.new.self) (record { letter = c.args.letter; argument = c.in-Some-Takes.argument }) c.next_word.new.self.letters _ c.in-None-next_word.ensures.letters refl (words_left c.args.self.now) c.in-None-next_word.ensures.word.0 c.in-None-next_word.ensures.word.1
