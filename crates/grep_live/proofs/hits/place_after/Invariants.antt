use Rattle.grep_live.proofs.{Prelude.{◌-◌, ◌≤◌, length, file_at}, lemmas.NumberLemmas.{FewerBelow, Suffices}}
use Rattle.grep_live.proofs.hits.place_after.Given as goal

-- the place is between these
abbrev pub invariant-loop-low : goal.invariant-loop-low
invariant-loop-low l = record {
  within : l.high ≤ length (file_at l.session.inputs.files l.k).lines;
  fewer : FewerBelow l.session.inputs l.k l.number l.low;
  enough : Suffices l.session.inputs l.k l.number l.high;
}

abbrev pub decreases-loop-low : goal.decreases-loop-low
decreases-loop-low l = l.high - l.low
