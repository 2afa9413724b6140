use Rattle.{grep_utility.proofs.Prelude.{◌≡◌, All, ◌++◌, length, map, meant_by, IsCounted, AreGrouped}, std.specs.Vec.Iter.{into_iter_items, into_iter_len}, re_syntax.specs.Working.Trees.expression_of}
use Rattle.grep_utility.proofs.joined.joined_matchers.Given as goal

-- some patterns are grouped, and the others are left
abbrev pub invariant-loop-pattern : goal.invariant-loop-pattern
invariant-loop-pattern l =
    (l.yielded ++ into_iter_items l.pattern-iterator ≡ l.fn.patterns.items)
    × (into_iter_len l.pattern-iterator ≡ length (into_iter_items l.pattern-iterator))
    × All (IsCounted l.options.ignore_case) (into_iter_items l.pattern-iterator)
    × AreGrouped l.options.line_regexp (map (meant_by l.options.ignore_case) l.yielded) l.groups.matchers.items (map expression_of l.groups.choice)
