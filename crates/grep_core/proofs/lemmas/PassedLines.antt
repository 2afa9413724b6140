-- Lines that are passed at once.
use Rattle.{grep_core.proofs.{Prelude.{◌≡◌, ℕ, ◌+◌, ◌-◌, ◌*◌, Bool, true, false, List, [], ◌++◌, All, Option, length, take, refl, sym, ap, ◌∙◌, arith, append_assoc, length-append, if◌then◌else◌, take-append_seam, Text, terminated, lines_of, HasNoNewline, Expression, IsBlock, HoldsOfMany, Options, SearchesLines, Matched, Selected, Numbered, AreAhead, HasHanded, PassesNext, IsNextOf}, lemmas.{CostLaws.searched_bytes, CountedLines.many_others}}, re_syntax.proofs.lemmas.LinesLaws.{lines_of-terminated, terminated-append}, re_search.{specs.{Meters.Steps, Searches.AddsAtMost}, proofs.lemmas.{NextLines.block_lines, CountedBlocks.counts_same}}, grep_io.proofs.lemmas.PassedLemmas.HasHanded-pass}

-- its lines are passed
pub passed_block : {R : Type 0} {remaining : R → Option Text} {failures : R → ℕ} {reader : R} {handed : List Text} {old : Numbered R} (new : Numbered R) {block : Text} {count : ℕ} → AreAhead old block count → PassesNext remaining failures old new (lines_of (take (length block) old.lines.ahead))
    → HasHanded remaining failures reader old handed → HasHanded remaining failures reader new (handed ++ lines_of block)
passed_block {reader = reader} {handed = handed} new {block} h next s =
    let taken = ap (take (length block)) h.ahead ∙ take-append_seam block h.rest in
    rw taken at (next reader handed s)

-- it is known how many of its lines are selected
pub counted_block : (es : List Expression) (options : Options) (block : Text) {count : ℕ} (matched : ℕ) → count ≡ length (lines_of block) → HoldsOfMany (Matched es options) (lines_of block) matched → HoldsOfMany (Selected es options) (lines_of block) (if options.invert_match then count - matched else matched)
counted_block es options block {count} matched counted found = selected options.invert_match refl
  where
    selected : (b : Bool) → options.invert_match ≡ b → HoldsOfMany (Selected es options) (lines_of block) (if b then count - matched else matched)
    selected true inverts =
        let others = many_others (Matched es options) (lines_of block) matched found in
        let same : length (lines_of block) - matched ≡ count - matched = omega (arith, counted) in
        counts_same (λ line. Matched es options line → ⊥) (Selected es options) (λ line s. rw inverts s) (λ line s. rw inverts at s) (lines_of block) (count - matched) (rw same at others)
    selected false plain = counts_same (Matched es options) (Selected es options) (λ line s. rw plain s) (λ line s. rw plain at s) (lines_of block) matched found

-- each byte of a block was a step of each matcher at most
pub block_spent : (es : List Expression) (options : Options) (ready : Text) {old new : Steps} → IsBlock ready → AddsAtMost (length es * length ready) old new → SearchesLines options (length es) (lines_of ready) old new
block_spent es options ready block spent =
    searched_bytes options _ _ (rw (block_lines ready block) at spent)

-- ---- lines that are the next ones

module _ {R : Type 0} {now : Numbered R} {all : List Text} (n : IsNextOf now all) (free : All HasNoNewline all) where
  -- they are ahead
  pub are_ahead : {bytes count : ℕ} → bytes ≡ length (terminated all) → count ≡ length all → (block : Text) × (bytes ≡ length block) × AreAhead now block count
  are_ahead width counted =
      (terminated all, width, record { rest = n.rest; ahead = n.ahead; whole = (all, free, refl); counted = counted ∙ ap length (sym (lines_of-terminated all free)); few = rw counted n.few })

  -- the state once they are passed
  abbrev pub passed_state : Numbered R
  passed_state = record { lines = record { reader = now.lines.reader; ahead = n.rest; line = []; stage = now.lines.stage }; number = now.number + length all }

  module _ {remaining : R → Option Text} {failures : R → ℕ} {reader : R} {handed : List Text} (h : HasHanded remaining failures reader now handed) where
    pub handed_with : HasHanded remaining failures reader passed_state (handed ++ all)
    handed_with = HasHanded-pass remaining failures reader now passed_state handed all h n.open_still free n.ahead refl refl refl n.few

    -- they were passed
    pub handed_passed : {new : Numbered R} {bytes : ℕ} → bytes ≡ length (terminated all) → PassesNext remaining failures now new (lines_of (take bytes now.lines.ahead)) → HasHanded remaining failures reader new (handed ++ all)
    handed_passed width next =
        let taken = ap (λ k. take k now.lines.ahead) width ∙ ap (take (length (terminated all))) n.ahead ∙ take-append_seam (terminated all) n.rest in
        rw (ap lines_of taken ∙ lines_of-terminated all free) at (next reader handed h)

-- the first of the next lines are the next ones
pub next_first : {R : Type 0} {now : Numbered R} (first later : List Text) → IsNextOf now (first ++ later) → IsNextOf now first
next_first first later n = record {
  rest = terminated later ++ n.rest;
  ahead = n.ahead ∙ ap (λ t. t ++ n.rest) (terminated-append first later) ∙ append_assoc (terminated first) (terminated later) n.rest;
  few = omega (arith, n.few, length-append first later);
  open_still = n.open_still;
}
