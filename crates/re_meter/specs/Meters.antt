-- The work of searches, counted up to the greatest u64.
use Rattle.std.specs.Prelude.{ℕ, ◌+◌, ◌-◌, ◌^◌, ◌≤◌, min}

-- the steps that were computed, those that were found in a cache, and the bytes that were passed
pub record Steps : Type 0 where
  pub built : ℕ
  pub reused : ℕ
  pub passed : ℕ

abbrev pub fresh : Steps
fresh = record { built = 0; reused = 0; passed = 0 }

-- a count increased by a number; it stays at the greatest u64
abbrev pub counted : ℕ → ℕ → ℕ
counted more n = min (n + more) (2 ^ 64 - 1)

abbrev pub many_built : ℕ → Steps → Steps
many_built more steps = record steps { built = counted more steps.built }

abbrev pub many_reused : ℕ → Steps → Steps
many_reused more steps = record steps { reused = counted more steps.reused }

abbrev pub many_passed : ℕ → Steps → Steps
many_passed more steps = record steps { passed = counted more steps.passed }

-- at most so many steps were counted, and at most so many bytes were passed; no count fell, but
-- each stops at the greatest u64
pub record AddsUpTo (most_steps most_bytes : ℕ) (old new : Steps) : Type 0 where
  pub built : min old.built (2 ^ 64 - 1) ≤ new.built
  pub reused : min old.reused (2 ^ 64 - 1) ≤ new.reused
  pub passed : min old.passed (2 ^ 64 - 1) ≤ new.passed
  pub sum : new.built + new.reused ≤ old.built + old.reused + most_steps
  pub bytes : new.passed ≤ old.passed + most_bytes

-- at least `least` of them were counted, too
pub record AddsBetween (least most most_bytes : ℕ) (old new : Steps) : Type 0 where
  pub few : AddsUpTo most most_bytes old new
  pub all : min (old.built + old.reused + least) (2 ^ 64 - 1) ≤ new.built + new.reused

-- just so many steps were counted, and at most so many bytes were passed
abbrev pub AddsJust : ℕ → ℕ → Steps → Steps → Type 0
AddsJust steps most_bytes old new = AddsBetween steps steps most_bytes old new

-- at most `most` steps were counted, and at most `most` bytes were passed
abbrev pub AddsAtMost : ℕ → Steps → Steps → Type 0
AddsAtMost most old new = AddsUpTo most most old new
