use Rattle.re_runs.proofs.Prelude.{◌≡◌, ℕ, ◌+◌, ◌-◌, ◌<◌, ◌≤◌, not, eqb, bit_at, Nowhere, AllPass}
use Rattle.re_runs.proofs.probes.Probes.next_marks.Given as goal

abbrev pub invariant-quiet : goal.invariant-quiet
invariant-quiet g l = record {
  low : l.from ≤ l.at;
  high : l.at + 32 ≤ l.past;
  passed : Nowhere (AllPass (not (eqb g.row.EACH 0)) l.self l.line) l.from l.at;
  each : (k : ℕ) → k < 32 → AllPass (not (eqb g.row.EACH 0)) l.self l.line (l.at + k) → bit_at l.marks k ≡ 1;
  within : (k : ℕ) → bit_at l.marks k ≡ 1 → k < 32;
}

abbrev pub decreases-quiet : goal.decreases-quiet
decreases-quiet g l = l.past - l.at
