use Rattle.re_strings.proofs.Prelude.{◌≡◌, ℕ, ◌<◌, map, slice_get, text_at}
use Rattle.re_strings.proofs.growth.run_end.Given as goal

abbrev pub invariant-places : goal.invariant-places
invariant-places l = (i : ℕ) → l.at < i → i < l.end → slice_get (text_at (map (λ s. s.now) l.strings) i) l.depth ≡ l.key
