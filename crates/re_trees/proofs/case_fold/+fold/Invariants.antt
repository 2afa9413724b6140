use Rattle.re_trees.proofs.Prelude.{◌≡◌, map, take, expression_of, folded}
use Rattle.re_trees.proofs.case_fold.+fold.Given as goal

abbrev pub invariant-fold_all-loop-i : goal.invariant-fold_all-loop-i
invariant-fold_all-loop-i l = record {
  unvisited : goal.unvisited-fold_all-loop-i l;
  visited : map expression_of (take l.i l.parts.items) ≡ map folded (map expression_of (take l.i l.initial.parts.items));
}
