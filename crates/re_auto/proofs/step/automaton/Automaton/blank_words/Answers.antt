use Rattle.re_auto.proofs.{Prelude.{ℕ, IfOk-weaker, replicate, expression_of, positions, Are, AreTablesOf, words_for}, lemmas.BitLemmas.zeros_are}
use Rattle.re_auto.proofs.step.automaton.Automaton.blank_words.Goals as goal

pub returns : goal.returns
returns c = IfOk-weaker c.vec.result _ _ (λ words zeros. rw (zeros (λ y h. h)) are) c.vec.ensures.items_if_clones_equal
  where
    count : ℕ
    count = words_for (positions (expression_of c.args.self.now))

    known : AreTablesOf (expression_of c.args.self.now) c.self.inside.tables
    known = rw c.self.view_is at c.self.invariant

    are : Are (replicate c.self.inside.tables.width 0) (λ _. ⊥) count
    are = rw known.width (zeros_are _)
