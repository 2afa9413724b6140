-- The steps of some matchers.
use Rattle.{re_search.proofs.Prelude.{◌≡◌, ℕ, ◌+◌, ◌*◌, ◌≤◌, arith, mul-le-mul_left}, re_auto.specs.{Meters.Steps, Searches.AddsAtMost}, re_match.proofs.lemmas.StepSums.adds_on}

-- as many of each after others
pub times_more : (n first next most : ℕ) {old mid new : Steps} → AddsAtMost (n * first) old mid → AddsAtMost (n * next) mid new → first + next ≤ most → AddsAtMost (n * most) old new
times_more n first next most a b few =
    let all = mul-le-mul_left n few in
    let joined : n * first + n * next ≡ n * (first + next) = omega arith in
    adds_on a b (omega (arith, joined, all)) (omega (arith, joined, all))
