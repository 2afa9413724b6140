use Rattle.{re_ends.{proofs.Prelude.{ℕ, ◌-◌, ◌/◌, ◌<◌, ◌≤◌, ◌⊎◌, ◌↔◌, ◌≡◌, length, Has}, specs.Working.{Groups.In, Closing.AreMembers}}, std.specs.Prelude.vec_capacity}
use Rattle.re_ends.proofs.groups.take_met.Given as goal

-- those of the words before k are taken
abbrev pub invariant-words : goal.invariant-words
invariant-words l = record {
  met_length : length l.met ≡ length l.fn.met;
  left_length : length l.left ≡ length l.fn.left;
  met : (q : ℕ) → Has l.met q ↔ ((l.k ≤ q / 64) × Has l.fn.met q);
  left : (q : ℕ) → Has l.left q ↔ (Has l.fn.left q × (q / 64 < l.k → Has l.fn.met q → ⊥));
  added : (j q : ℕ) → In l.row.items j q ↔ (In l.fn.row.items j q ⊎ (j ≡ l.group) × (q / 64 < l.k) × Has l.fn.met q × Has l.fn.left q);
  made : AreMembers l.group l.row.items;
  room : vec_capacity l.fn.row ≤ vec_capacity l.row;
}

abbrev pub decreases-words : goal.decreases-words
decreases-words l = l.past - l.k
