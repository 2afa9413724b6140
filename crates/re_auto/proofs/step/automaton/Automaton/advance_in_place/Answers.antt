use Rattle.re_auto.proofs.{Prelude.{refl, symm, ◌≡◌, ◌∙◌, ap, length, with_items, expression_of, part_of, IsNext, Has, IsNextSet, with_items_is}, lemmas.{SetsByWords.{stands_next, next_small}, WordLemmas.next_of_word}}
use Rattle.re_auto.proofs.step.automaton.Automaton.advance_in_place.Goals as goal

is_written : (c : goal.After-add_built) → (with_items c.args.set.now.words c.put_word.new.into).items ≡ c.put_word.new.into
is_written c = with_items_is c.args.set.now.words c.put_word.new.into (c.put_word.ensures.len ∙ c.deref_mut.ensures.len)

next : (c : goal.After-add_built) → IsNext (part_of (expression_of c.args.self.now) 0) c.args.mode c.args.set.now.at_begin (Has c.args.set.now.words.items) c.args.byte (Has c.put_word.new.into)
next c = next_of_word (part_of (expression_of c.args.self.now) 0) c.args.mode _ _ _ _ _ _ (rw c.deref.ensures.value at c.only_word.ensures) (λ q. symm (c.put_word.ensures.put q)) c.step_word-word.ensures

pub returns-clause-next : goal.returns-clause-next
unfolding IsNextSet
returns-clause-next c = (refl, rw (is_written c) (next c))

pub returns-clause-made : goal.returns-clause-made
returns-clause-made c =
    rw (is_written c) (
      c.put_word.ensures.len ∙ ap length c.deref_mut.ensures.value ∙ c.requires.made.0,
      next_small (expression_of c.args.self.now) c.args.mode c.args.set.now.at_begin c.args.set.now.words.items c.put_word.new.into c.args.byte (next c),
    )

pub returns-clause-stands : goal.returns-clause-stands
returns-clause-stands c = stands_next (expression_of c.args.self.now) c.args.mode c.args.set.now _ c.args.byte (returns-clause-next c)
