-- Worked examples of texts that are refused, with their first fault.
use Rattle.re_syntax.{proofs.Prelude.{ℕ, codes, refl, arith, Basic, Extended, FaultKind, IntervalTooLarge, NothingToRepeat, UnclosedGroup, UnopenedGroup, Text, IsNumber, exactly, between, opens_star, opens_interval, least_too_large}, specs.{BasicTokens.unopened, FirstFaults.{IsFirstFault, no_token, later}, ExtendedTokens.{needs_item, disallowed, opens, parts, leads, ordinary}}}
use Rattle.re_syntax.specs.BasicTokens.{ordinary as basic_ordinary}
use Rattle.re_syntax.specs.FirstFaults.{unclosed as never_closed}

-- a fault of this kind at this place
abbrev At : FaultKind → ℕ → Text → Type 0
At kind at text = IsFirstFault Extended text (record { kind = kind; at = at })

abbrev BasicAt : FaultKind → ℕ → Text → Type 0
BasicAt kind at text = IsFirstFault Basic text (record { kind = kind; at = at })

one : IsNumber (codes "1")
one = record { not_empty = λ e. cc; digits = refl }

two : IsNumber (codes "2")
two = record { not_empty = λ e. cc; digits = refl }

three_hundred : IsNumber (codes "300")
three_hundred = record { not_empty = λ e. cc; digits = refl }

-- `(^*)`: nothing to repeat
star_in_group : At NothingToRepeat 2 (codes "(^*)")
star_in_group =
    record { within = omega arith; is_fault = later _ opens (λ d. omega arith) (later _ leads (λ d. d) (no_token (needs_item (λ e. cc) opens_star))) }

-- `a|{1}`: the same, for an interval
interval_after_bar : At NothingToRepeat 2 (codes "a|{1}")
interval_after_bar = record {
  within = omega arith;
  is_fault = later _ (ordinary 97 refl) (λ d. d) (later _ parts (λ d. d)
      (no_token (needs_item (λ e. cc) (opens_interval (record { inside = codes "1"; form = exactly (codes "1") one; whole = refl })))));
}

-- `a{300,2}`: of two faults of an interval, the first
too_large : At IntervalTooLarge 1 (codes "a{300,2}")
too_large = record {
  within = omega arith;
  is_fault = later _ (ordinary 97 refl) (λ d. d)
      (no_token (disallowed refl (record { inside = codes "300,2"; form = between (codes "300") (codes "2") three_hundred two; whole = refl }) (least_too_large (omega arith))));
}

-- `(a(b`: of two groups that nothing closes, the innermost
two_unclosed : At UnclosedGroup 2 (codes "(a(b")
two_unclosed = record {
  within = omega arith;
  is_fault = later _ opens (λ d. omega arith) (later _ (ordinary 97 refl) (λ d. d)
      (later _ opens (λ d. omega arith) (later _ (ordinary 98 refl) (λ d. d) (never_closed refl))));
}

-- `a\)`, a basic expression: nothing is open
closing_alone : BasicAt UnopenedGroup 1 (codes "a\\)")
closing_alone = record { within = omega arith; is_fault = later _ (basic_ordinary 97 refl) (λ d. d) (no_token (unopened (λ h. cc))) }
