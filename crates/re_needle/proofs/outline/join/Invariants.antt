use Rattle.re_needle.proofs.Prelude.{◌≡◌, ℕ, ◌<◌, IsTrue, length, map, min, members, set_at}
use Rattle.re_needle.proofs.outline.join.Given as goal

abbrev pub invariant-places : goal.invariant-places
invariant-places l = record {
  same_len : length l.front.items ≡ length l.initial.front.items;
  long : length l.front.items ≡ min (length l.fn.front.items) (length l.sets);
  first : (j x : ℕ) → j < length l.front.items → IsTrue (set_at (map members l.fn.front.items) j x) → IsTrue (set_at (map members l.front.items) j x);
  second : (j x : ℕ) → j < l.k → IsTrue (set_at (map members l.sets) j x) → IsTrue (set_at (map members l.front.items) j x);
}
