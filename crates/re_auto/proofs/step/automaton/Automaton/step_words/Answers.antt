use Rattle.re_auto.proofs.{Prelude.{refl, sym, ◌∙◌, expression_of, positions}, lemmas.RowLemmas.row_within}
use Rattle.re_auto.proofs.step.automaton.Automaton.step_words.Goals as goal

pub add_rows-requires-clause-rows : goal.add_rows-requires-clause-rows
add_rows-requires-clause-rows c =
    let known = rw c.self.view_is at c.self.invariant in
    rw ((c.if-may_begin.auto.into ∙ c.requires.into ∙ c.requires.from.0 ∙ sym known.width), c.deref.ensures.value, known.follow.0) (λ p h. row_within p (positions (expression_of c.args.self.now)) c.self.inside.tables.width ((c.requires.from.1 p).0 h).1)

pub add_rows-requires-clause-covered : goal.add_rows-requires-clause-covered
add_rows-requires-clause-covered c =
    let known = rw c.self.view_is at c.self.invariant in
    rw ((c.if-may_begin.auto.into ∙ c.requires.into ∙ c.requires.from.0 ∙ sym known.width), c.deref.ensures.value, c.deref-2.ensures.value) (refl, known.ranges.1)
