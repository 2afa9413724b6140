use Rattle.{re_search.proofs.Prelude.{◌≡◌, ℕ, ◌≤◌, ◌-◌, false, [], ◌∷◌, length, IsFound, IsSame, ArePartsOf, spent, matched_expression}, re_meter.specs.Meters.{Steps, AddsAtMost}}
use Rattle.re_search.proofs.line_parts.next_of_one.Given as goal

-- no part begins before this place
abbrev pub invariant-stretches : goal.invariant-stretches
invariant-stretches l = record {
  low : l.fn.from ≤ l.at;
  on_line : l.at ≤ length l.line;
  later : (i j : ℕ) → IsFound (matched_expression l.fn.matcher ∷ []) l.line false l.fn.from i j → l.at ≤ i;
  right : ArePartsOf (record { expressions = matched_expression l.fn.matcher ∷ []; whole = false }) l.line l.at l.parts;
  room : l.parts.room ≡ l.fn.parts.room;
  same : IsSame l.fn.matcher l.matcher;
  steps : (first : Steps) → AddsAtMost (spent l.fn.parts.seen) first l.fn.meter → AddsAtMost (spent l.parts.seen) first l.meter;
}

abbrev pub decreases-stretches : goal.decreases-stretches
decreases-stretches l = length l.line - l.parts.seen
