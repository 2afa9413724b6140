use Rattle.grep_utility.proofs.{Prelude.{◌≡◌, ◌∷◌, None, Ok, rules, sym, ap, ◌∙◌, pieces, reads_on, texts_of, drafted, token_of, tokens_left}, lemmas.WordLemmas.piece_added}
use Rattle.grep_utility.proofs.words.Draft.add_words.Goals as goal

pub loop-item-init : goal.loop-item-init
loop-item-init c =
    let same : tokens_left c.into_iter-item-iterator.result ≡ pieces (texts_of c.args.words.now) None = search rules in
    (tt, tt, ap (reads_on (drafted c.args.self.now)) same)

pub loop-item-preserved : goal.loop-item-preserved
loop-item-preserved c =
    let left = c.in-Some.ensures.steps ∙ ap (λ item. token_of item ∷ tokens_left c.next.new.self) c.in_ok-piece.was in
    let added = piece_added (drafted c.loop-item.self) (drafted c.add.new.self) (token_of (Ok c.in_ok-piece.piece)) (tokens_left c.next.new.self) (tokens_left c.loop-item.item-iterator) left c.in_ok-add.ensures in
    (tt, tt, sym added ∙ c.loop-item.invariant.2)
