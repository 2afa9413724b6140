use Rattle.re_strings.proofs.Prelude.{ℕ, ◌<◌, ◌≤◌, length, map, text_at}
use Rattle.re_strings.proofs.leaps.window_of.Given as goal

abbrev pub invariant-strings : goal.invariant-strings
invariant-strings l = record {
  few : l.window ≤ 16;
  long : (i : ℕ) → i < l.place → l.window ≤ length (text_at (map (λ s. s.now) l.strings) i);
}
