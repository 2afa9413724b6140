use Rattle.re_ends.proofs.Prelude.{ℕ, ◌<◌, ◌≤◌, slice_index}
use Rattle.re_ends.proofs.kept.count_of.Given as goal

abbrev pub invariant-bytes : goal.invariant-bytes
invariant-bytes l = record {
  few : l.count ≤ 256;
  above : (c : ℕ) → c < l.c → slice_index l.classes c < l.count;
}
