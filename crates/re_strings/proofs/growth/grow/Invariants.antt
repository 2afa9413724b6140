use Rattle.re_strings.proofs.Prelude.{◌<◌, ◌-◌, ◌^◌, map, length, AreRows}
use Rattle.re_strings.proofs.growth.grow.Given as goal

abbrev pub invariant-nodes : goal.invariant-nodes
invariant-nodes l = record {
  rows : AreRows (map (λ s. s.now) l.strings) l.branches.items l.first.items l.node;
  few : length l.branches.items < 2 ^ 32;
}

abbrev pub decreases-nodes : goal.decreases-nodes
decreases-nodes l = 2 ^ 32 - l.node
