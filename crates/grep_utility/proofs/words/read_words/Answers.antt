use Rattle.grep_utility.proofs.{Prelude.{◌≡◌, no_numbers, nothing_asked, texts_of, drafted}, lemmas.WordLemmas.completes}
use Rattle.grep_utility.proofs.words.read_words.Goals as goal

pub returns : goal.returns
returns c =
    let words = texts_of c.args.words.now in
    let begins : drafted c.new-draft.result ≡ record { asked = nothing_asked; numbers = no_numbers } = λ i. record { asked = c.new-draft.ensures.nothing i; numbers = c.new-draft.ensures.numbers i } in
    completes words _ c.complete.result (cc c.in_ok-add_words.ensures) c.complete.ensures
