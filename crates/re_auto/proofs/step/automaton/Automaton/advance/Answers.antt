use Rattle.re_auto.proofs.{Prelude.{refl, ◌≡◌, ◌∙◌, ap, length, with_items, expression_of, part_of, IsNext, Has, IsNextSet, with_items_is}, lemmas.SetsByWords.{stands_next, next_small}}
use Rattle.re_auto.proofs.step.automaton.Automaton.advance.Goals as goal

is_written : (c : goal.After-add_built) → (with_items c.args.into.now.words c.step.new.into).items ≡ c.step.new.into
is_written c = with_items_is c.args.into.now.words c.step.new.into (c.step.ensures.len ∙ c.deref_mut.ensures.len)

next : (c : goal.After-add_built) → IsNext (part_of (expression_of c.args.self.now) 0) c.args.mode c.args.from.now.at_begin (Has c.args.from.now.words.items) c.args.byte (Has c.step.new.into)
next c = rw c.deref.ensures.value at c.step.ensures.next

pub returns-clause-next : goal.returns-clause-next
unfolding IsNextSet
returns-clause-next c = (refl, rw (is_written c) (next c))

pub returns-clause-made : goal.returns-clause-made
returns-clause-made c =
    rw (is_written c) (
      c.step.ensures.len ∙ ap length c.deref_mut.ensures.value ∙ c.requires.into.0,
      next_small (expression_of c.args.self.now) c.args.mode c.args.from.now.at_begin c.args.from.now.words.items c.step.new.into c.args.byte (next c),
    )

pub returns-clause-stands : goal.returns-clause-stands
returns-clause-stands c = stands_next (expression_of c.args.self.now) c.args.mode c.args.from.now _ c.args.byte (returns-clause-next c)
