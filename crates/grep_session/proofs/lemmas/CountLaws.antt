-- Whether some line is selected is decided by how many lines are matched.
use Rattle.grep_session.proofs.Prelude.{◌≡◌, ℕ, ◌+◌, ◌-◌, ◌≤◌, nat_lt, Bool, true, false, not, List, [], ◌∷◌, length, refl, ◌∙◌, ap, sym, arith, if◌then◌else◌, false≢true, lt-ltb, ◌||◌, nat_tests, Options, KeptLine, is_matched, matched_count, is_selected, some_selected, selected_count}

-- the number of selected lines is above 0 if and only if some line is selected
counted_some : (options : Options) (text : List KeptLine) → nat_lt 0 (selected_count options text) ≡ some_selected options text
counted_some options [] = refl
counted_some options (line ∷ text) = by_verdict (is_selected options line) (selected_count options text) (some_selected options text) (counted_some options text)
  where
    by_verdict : (found : Bool) (n : ℕ) (some : Bool) → nat_lt 0 n ≡ some → nat_lt 0 ((if found then 1 else 0) + n) ≡ (found || some)
    by_verdict true n some e = lt-ltb 0 (1 + n) (omega arith)
    by_verdict false n some e = let same : 0 + n ≡ n = omega arith in cc

module _ (options : Options) where
  -- the matched lines are the selected ones
  pub matched_selected : options.invert_match ≡ false → (text : List KeptLine) → selected_count options text ≡ matched_count text
  matched_selected plain [] = refl
  matched_selected plain (line ∷ text) =
      ap (λ (b : Bool). (if (if b then not (is_matched line) else is_matched line) then 1 else 0) + selected_count options text) plain
      ∙ ap (λ n. (if is_matched line then 1 else 0) + n) (matched_selected plain text)

  -- each line is matched or selected
  pub others_selected : options.invert_match ≡ true → (text : List KeptLine) → selected_count options text + matched_count text ≡ length text
  others_selected inverted [] = refl
  others_selected inverted (line ∷ text) = by_verdict (is_matched line) (is_selected options line) (rw inverted) (others_selected inverted text)
    where
      by_verdict : (matched found : Bool) → found ≡ not matched → selected_count options text + matched_count text ≡ length text
          → ((if found then 1 else 0) + selected_count options text) + ((if matched then 1 else 0) + matched_count text) ≡ length (line ∷ text)
      by_verdict true true e sum = absurd (false≢true (sym e))
      by_verdict true false e sum = omega arith
      by_verdict false true e sum = omega arith
      by_verdict false false e sum = absurd (false≢true e)

  pub some_matched : options.invert_match ≡ false → (text : List KeptLine) → nat_lt 0 (matched_count text) ≡ some_selected options text
  some_matched plain text = cc (matched_selected plain text, counted_some options text)

  pub some_not_matched : options.invert_match ≡ true → (text : List KeptLine) → nat_lt (matched_count text) (length text) ≡ some_selected options text
  some_not_matched inverted text = more_than (selected_count options text) (matched_count text) (length text) (others_selected inverted text) ∙ counted_some options text
    where
      more_than : (selected matched all : ℕ) → selected + matched ≡ all → nat_lt matched all ≡ nat_lt 0 selected
      more_than selected matched all sum = grind (arith, nat_tests)

  -- the number of selected lines by that of the matched ones
  pub count_by_matched : (text : List KeptLine) (matched : ℕ) → matched ≡ matched_count text → options.invert_match ≡ true → (matched ≤ length text) × (length text - matched ≡ selected_count options text)
  count_by_matched text matched is inverted = let sum = others_selected inverted text in (omega arith, omega arith)

  -- of lines that are matched as the selected ones are not, and of one that is matched as they are
  pub none_selected : (line : KeptLine) → is_matched line ≡ not (not options.invert_match) → is_selected options line ≡ false
  none_selected line e = cc (by_flag options.invert_match)
    where
      by_flag : (b : Bool) → (if b then not (not (not b)) else not (not b)) ≡ false
      by_flag true = refl
      by_flag false = refl

  pub one_selected : (line : KeptLine) → is_matched line ≡ not options.invert_match → is_selected options line ≡ true
  one_selected line e = cc (by_flag options.invert_match)
    where
      by_flag : (b : Bool) → (if b then not (not b) else not b) ≡ true
      by_flag true = refl
      by_flag false = refl
