-- The bytes that a limited reader will give.
use Rattle.std.specs.Prelude.{◌≡◌, ℕ, ◌+◌, ◌≤◌, [], take, Option, Some, Result, MatchResult}
use Rattle.std.{specs.Option.option_map, proofs.Common.{zero, suc}}
use Rattle.re_trees.specs.Bytes.{Text}

-- the bytes of a reader that gives at most `step` bytes a call, and fails once it gave `left`
-- bytes: none with no step, and else the first `left` of those of the reader beneath it
abbrev pub limited : ℕ → ℕ → Option Text → Option Text
limited zero left known = Some []
limited (suc step) left known = option_map (take left) known

-- the bytes that a call moved are at most `step`, and those that may still be moved are fewer by
-- them; a call that failed moved none
abbrev pub MovesFew : {E : Type 0} → ℕ → ℕ → ℕ → Result ℕ E → Type 0
MovesFew step old_left new_left moved =
    MatchResult moved (λ n. (n ≤ step) × (n + new_left ≡ old_left)) (λ _. new_left ≡ old_left)
