use Rattle.grep_utility.proofs.Prelude.{◌≡◌, None, pieces, reads_on, texts_of, drafted, tokens_left}
use Rattle.grep_utility.proofs.words.Draft.add_words.Given as goal

-- the request so far with the pieces that are left is what the words ask for
abbrev pub invariant-loop-item : goal.invariant-loop-item
invariant-loop-item l =
    (goal.iterator-loop-item).can_next l.item-iterator × (goal.iterator-loop-item).is_finite l.item-iterator
    × (reads_on (drafted l.self) (tokens_left l.item-iterator) ≡ reads_on (drafted l.fn.self) (pieces (texts_of l.words) None))
