use Rattle.re_strings.proofs.Prelude.{List, ◌≤◌, ◌-◌, length, Text, AreLeapsOf, NoneBegins, keys}
use Rattle.re_strings.proofs.leaps.Leaps.stride.Given as goal

abbrev pub invariant-windows : goal.invariant-windows
invariant-windows l = record {
  low : l.place ≤ l.at;
  high : l.at ≤ length l.line;
  none : (strings : List Text) → AreLeapsOf strings l.self → NoneBegins strings (keys l.fold l.line) l.place l.at;
}

abbrev pub decreases-windows : goal.decreases-windows
decreases-windows l = length l.line - l.at
