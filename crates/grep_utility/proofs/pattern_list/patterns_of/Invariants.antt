use Rattle.{grep_utility.proofs.Prelude.{◌≡◌, List, ◌++◌, Text, ArePatterns}, re_syntax.specs.Lines.lines_of}
use Rattle.grep_utility.proofs.pattern_list.patterns_of.Given as goal

-- some texts are read, and the others are left
abbrev pub invariant-loop-text : goal.invariant-loop-text
invariant-loop-text l =
    (goal.iterator-loop-text).can_next l.text-iterator × (goal.iterator-loop-text).is_finite l.text-iterator
    × (done : List Text) × (done ++ l.text-iterator ≡ lines_of l.texts) × ArePatterns l.syntax l.fold done l.patterns.items
