use Rattle.re_strings.proofs.{Prelude.{arith, Labels}, lemmas.SetLeaps.same_leaps}
use Rattle.re_strings.proofs.build.table_of.Goals as goal

pub returns-clause-right : goal.returns-clause-right
returns-clause-right c = λ strings same.
    let (label, trie, own) = c.in_ok-nodes.ensures.right strings same in
    let all : Labels = record { strings = strings; label = label } in
    let starts = c.in_ok-starts.ensures.right all trie in
    let linked = (rw c.deref.ensures.value at c.in_ok-links.ensures.right) all trie starts own in
    let ended = c.in_ok-links.ensures.linked.all_outputs in (
      label,
      record {
        trie = trie;
        steps = c.in_ok-steps.ensures.right all trie starts (rw c.deref-2.ensures.value linked.fallbacks);
        fails = linked.fallbacks;
        depths = c.in_ok-depths.ensures.right all trie;
        outputs = λ n lt. linked.ended n (omega arith);
        leaps = same_leaps _ _ same c.in_ok-leaps.ensures.right;
        fronts = same_leaps _ _ same c.in_ok-fronts.ensures.right;
      },
    )

pub returns-clause-table : goal.returns-clause-table
returns-clause-table c = record {
  trie = c.in_ok-nodes.ensures.trie;
  few = c.in_ok-nodes.ensures.few;
  steps = c.in_ok-steps.ensures.steps;
  fallbacks = c.in_ok-links.ensures.linked.fallbacks;
  fails = c.in_ok-links.ensures.linked.all_fails;
  depths = c.in_ok-depths.ensures.all;
  below = c.in_ok-links.ensures.linked.below;
  outputs = c.in_ok-links.ensures.linked.all_outputs;
  leaps = c.in_ok-leaps.ensures.leaps;
  fronts = c.in_ok-fronts.ensures.leaps;
  pairs = λ le.
      let window = c.in_ok-leaps.ensures.window in
      let front = c.in_ok-fronts.ensures.window in
      let least = c.min.ensures in
      omega arith;
}
