use Rattle.re_auto.proofs.Prelude.{◌≡◌, ◌≢◌, ℕ, ◌*◌, ◌<◌, ◌≤◌, length, get_or, row_of}
use Rattle.re_auto.proofs.build.classes.classes_of.Given as goal

abbrev pub invariant-bytes : goal.invariant-bytes
invariant-bytes l = record {
  bytes : length l.class_of.items ≡ l.c;
  few : l.count ≤ l.c;
  table : length l.takes.items ≡ l.count * l.width;
  known : (b : ℕ) → b < l.c → get_or l.class_of.items b 0 < l.count;
  same : (b : ℕ) → b < l.c → row_of l.takes.items l.width (get_or l.class_of.items b 0) ≡ row_of l.rows l.width b;
  apart : (j k : ℕ) → j < k → k < l.count → row_of l.takes.items l.width j ≢ row_of l.takes.items l.width k;
}
