-- Steps after steps.
use Rattle.{re_match.{proofs.Prelude.{sym, subst, ◌≡◌, ℕ, ◌+◌, ◌-◌, ◌≤◌, arith, length, Text, AddsUpTo, many_passed}, specs.{Working.Aheads.{CountsAhead, PassesAtLeast}, declared.ahead.Ahead.TheVariants.Nothing}}, re_auto.specs.{Meters.Steps, Searches.AddsAtMost}, re_meter.{proofs.lemmas.Adding.{adds_both, adds_within, only_passed, built_adds, reused_adds}, specs.Meters.{AddsJust, many_built, many_reused}}}

-- steps and bytes after others
pub adds_on : {first next first_bytes next_bytes most_steps most_bytes : ℕ} {old mid new : Steps} → AddsUpTo first first_bytes old mid → AddsUpTo next next_bytes mid new
    → first + next ≤ most_steps → first_bytes + next_bytes ≤ most_bytes → AddsUpTo most_steps most_bytes old new
adds_on a b few fits = adds_within _ _ _ _ _ _ few fits (adds_both _ _ _ _ _ _ _ a b)

-- a look, and then steps of one kind
pub look_and_built : (cost looks most_steps most_bytes : ℕ) {new : Steps} (old mid : Steps) → looks ≤ most_steps → cost ≤ most_bytes → mid ≡ many_passed cost old → new ≡ many_built looks mid → AddsUpTo most_steps most_bytes old new
look_and_built cost looks most_steps most_bytes old mid few fits is counted = adds_on (only_passed most_bytes cost old mid fits is) (subst (AddsUpTo looks 0 mid) (sym counted) (built_adds looks 0 mid)) (omega arith) (omega arith)

-- steps of a pass back
pub walked_adds : (n : ℕ) {old new : Steps} → (reused : ℕ) × (reused ≤ n) × (new ≡ many_built (n - reused) (many_reused reused old)) → AddsJust n 0 old new
walked_adds n {old} (reused, few, is) = rw is (record { few = adds_on (reused_adds reused 0 old) (built_adds (n - reused) 0 (many_reused reused old)) (omega arith) (omega arith); all = omega arith })

-- no fewer were
pub passes_all : (least cost : ℕ) {new : Steps} (old : Steps) → least ≤ cost → new ≡ many_passed cost old → PassesAtLeast least old new
passes_all least cost old few is = rw is (omega arith)

-- some bytes were passed
pub passes : (most cost : ℕ) {new : Steps} (old : Steps) → cost ≤ most → new ≡ many_passed cost old → AddsAtMost most old new
passes most cost {new} old fits is = adds_within 0 most most most old new (omega arith) (omega arith) (only_passed most cost old new fits is)

-- all that is left of a line was passed
pub passes_rest : (line : Text) (from cost : ℕ) {new : Steps} (old : Steps) → cost ≡ length line - from → new ≡ many_passed cost old → CountsAhead line from old new Nothing
passes_rest line from cost old all is = record { few = passes _ _ _ (omega arith) is; all = passes_all _ _ _ (omega arith) is }
