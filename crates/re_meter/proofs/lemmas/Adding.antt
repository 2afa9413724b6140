-- Bounds on what is counted: none, more, and one after the other.
use Rattle.re_meter.proofs.Prelude.{◌≡◌, ℕ, ◌+◌, ◌≤◌, sym, arith, subst, Steps, many_built, many_reused, many_passed, AddsUpTo}

-- nothing is counted
pub adds_none : (steps bytes : ℕ) (s : Steps) → AddsUpTo steps bytes s s
adds_none steps bytes s = record { built = omega arith; reused = omega arith; passed = omega arith; sum = omega arith; bytes = omega arith }

-- a smaller bound is a bound
pub adds_within : (few most few_bytes most_bytes : ℕ) (old new : Steps) → few ≤ most → few_bytes ≤ most_bytes → AddsUpTo few few_bytes old new → AddsUpTo most most_bytes old new
adds_within few most few_bytes most_bytes old new h k a = record { built = a.built; reused = a.reused; passed = a.passed; sum = omega (arith, h, a.sum); bytes = omega (arith, k, a.bytes) }

-- one after the other
pub adds_both : (first next first_bytes next_bytes : ℕ) (old mid new : Steps) → AddsUpTo first first_bytes old mid → AddsUpTo next next_bytes mid new → AddsUpTo (first + next) (first_bytes + next_bytes) old new
adds_both first next first_bytes next_bytes old mid new a b = record {
  built = omega (arith, a.built, b.built);
  reused = omega (arith, a.reused, b.reused);
  passed = omega (arith, a.passed, b.passed);
  sum = omega (arith, a.sum, b.sum);
  bytes = omega (arith, a.bytes, b.bytes);
}

-- what is counted exactly is a bound
pub built_adds : (n bytes : ℕ) (s : Steps) → AddsUpTo n bytes s (many_built n s)
built_adds n bytes s = record { built = omega arith; reused = omega arith; passed = omega arith; sum = omega arith; bytes = omega arith }

pub reused_adds : (n bytes : ℕ) (s : Steps) → AddsUpTo n bytes s (many_reused n s)
reused_adds n bytes s = record { built = omega arith; reused = omega arith; passed = omega arith; sum = omega arith; bytes = omega arith }

pub passed_adds : (steps n : ℕ) (s : Steps) → AddsUpTo steps n s (many_passed n s)
passed_adds steps n s = record { built = omega arith; reused = omega arith; passed = omega arith; sum = omega arith; bytes = omega arith }

-- more bytes were passed
pub adds_passed : (steps bytes most cost : ℕ) (old mid new : Steps) → bytes + cost ≤ most → AddsUpTo steps bytes old mid → new ≡ many_passed cost mid → AddsUpTo steps most old new
adds_passed steps bytes most cost old mid new fits a is =
    let few : steps + 0 ≤ steps = omega arith in
    subst (AddsUpTo steps most old) (sym is) (adds_within (steps + 0) steps (bytes + cost) most old (many_passed cost mid) few fits (adds_both steps 0 bytes cost old mid (many_passed cost mid) a (passed_adds 0 cost mid)))

-- so many bytes were passed, and no step was taken
pub only_passed : (most cost : ℕ) (old new : Steps) → cost ≤ most → new ≡ many_passed cost old → AddsUpTo 0 most old new
only_passed most cost old new fits is = adds_passed 0 0 most cost old old new (omega (arith, fits)) (adds_none 0 0 old) is
