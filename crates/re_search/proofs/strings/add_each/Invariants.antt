use Rattle.re_search.proofs.Prelude.{map, take, expression_of, AddsEach}
use Rattle.re_search.proofs.strings.add_each.Given as goal

abbrev pub invariant-trees : goal.invariant-trees
invariant-trees l = AddsEach (map expression_of (take l.place l.trees)) l.fn.strings.items l.strings.items
