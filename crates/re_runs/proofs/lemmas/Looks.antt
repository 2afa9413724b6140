-- Where a look over a block stops, and what it passed.
use Rattle.re_runs.proofs.{Prelude.{◌≡◌, ℕ, ◌+◌, ◌-◌, ◌≤◌, Option, None, Some, length, take, drop, arith, length-take, length-drop, get_or-drop, get_or-take, ⊤, Text, HasNoNewline, IsLineFrom, PassesAll, look_cost}, lemmas.{BlockLemmas.passed_within, Ranges.newline_at}}
use native.Mathlib.Omega.{by_contra}

-- a place without a newline between it and the line's beginning is in the line, or at its newline
pub place_in_line : (block : Text) (start at end : ℕ) → at ≤ length block → start ≤ at → HasNoNewline (drop start (take at block)) → IsLineFrom block start end → at ≤ end
place_in_line block start at end fits low none cut = by_contra _ _ (λ far.
    let there : start + (end - start) ≡ end = omega arith in
    none (end - start) 0 (omega (arith, length-drop start (take at block), length-take at block))
    (cc (get_or-drop start (take at block) (end - start) 0, get_or-take at block (start + (end - start)) 0 (omega arith), newline_at block start end cut)))

-- a look that stopped there passed no byte beyond the line's newline
pub look_in_line : (block : Text) (start at end : ℕ) → at ≤ length block → PassesAll (λ _. ⊤) (take at block) start → HasNoNewline (drop start (take at block)) → IsLineFrom block start end → look_cost block (Some at) ≤ end + 1
look_in_line block start at end fits front none cut = omega (arith, place_in_line block start at end fits (omega (arith, passed_within (λ _. ⊤) (take at block) start front, length-take at block)) none cut)

-- there is no line after the block's end
pub none_after : (block : Text) {start : ℕ} (end n : ℕ) → start ≡ length block → IsLineFrom block start end → n ≤ end + 1
none_after block end n last cut = absurd (omega arith)

-- no look passes more than there is
pub look_within : (line : Text) (found : Option ℕ) → look_cost line found ≤ length line
look_within line None = omega arith
look_within line (Some k) = omega arith
