use Rattle.{std.proofs.Common.false, re_search.specs.Working.Matchers.AreAlike}
use Rattle.re_tests.proofs.line_parts.all_made.Given as goal

abbrev pub invariant-loop-text : goal.invariant-loop-text
invariant-loop-text l = AreAlike false l.matchers.items
