use Rattle.grep_core.proofs.Prelude.{◌≡◌, List, ◌++◌, drop, Text, lines_of, with_lines}
use Rattle.grep_core.proofs.search.recent.RecentLines.push_block.Given as goal

-- some lines are held, and the others are left
abbrev pub invariant-loop-line : goal.invariant-loop-line
invariant-loop-line l =
    (goal.iterator-loop-line).can_next l.line-iterator × (goal.iterator-loop-line).is_finite l.line-iterator
    × (done : List Text) × (done ++ l.line-iterator ≡ lines_of (drop l.start l.block)) × (l.self ≡ with_lines l.fn.self done)
