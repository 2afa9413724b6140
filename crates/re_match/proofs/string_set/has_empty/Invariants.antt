use Rattle.re_match.proofs.Prelude.{◌≡◌, ℕ, ◌<◌, [], map, text_at}
use Rattle.re_match.proofs.string_set.has_empty.Given as goal

abbrev pub invariant-places : goal.invariant-places
invariant-places l = (i : ℕ) → i < l.place → text_at (map (λ s. s.now) l.strings) i ≡ [] → ⊥
