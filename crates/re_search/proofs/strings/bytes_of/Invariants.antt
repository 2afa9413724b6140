use Rattle.re_search.proofs.Prelude.{◌≡◌, map, take, byte, expression_of}
use Rattle.re_search.proofs.strings.bytes_of.Given as goal

abbrev pub invariant-trees : goal.invariant-trees
invariant-trees l = map expression_of (take l.place l.trees) ≡ map byte l.text.items
