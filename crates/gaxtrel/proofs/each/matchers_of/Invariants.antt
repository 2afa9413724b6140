use Rattle.{gaxtrel.proofs.Prelude.{◌≡◌, List, ◌++◌, Text, lines_of, HaveRoom}, grep_core.specs.Working.MatcherLists.AreMatchers}
use Rattle.gaxtrel.proofs.each.matchers_of.Given as goal

-- the first texts were read, and the others are left
abbrev pub invariant-loop-text : goal.invariant-loop-text
invariant-loop-text l =
    (goal.iterator-loop-text).can_next l.text-iterator × (goal.iterator-loop-text).is_finite l.text-iterator
    × (done : List Text) × (done ++ l.text-iterator ≡ lines_of l.texts) × AreMatchers l.syntax l.options done l.matchers.items × HaveRoom l.matchers.items
