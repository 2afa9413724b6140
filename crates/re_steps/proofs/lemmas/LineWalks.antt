-- Walks by held pairs over the lines of a block.
use Rattle.{re_steps.proofs.{Prelude.{◌≡◌, ℕ, suc, ◌+◌, ◌-◌, ◌*◌, ◌/◌, ◌<◌, false, inl, inr, Some, [], ◌∷◌, ◌++◌, length, take, get_or, slice_get, slice_get-get_or, slice_index, slice_range, refl, sym, ap, ◌∙◌, subst, arith, false≢true, Text, HasNoNewline, newline, IsBlock, PassesUnmatched, Matches, Search, StateSet, Acceptance, Stage, IsPlain, Searches, LineSearch, StepTable, Lines, GoesOverLines, IsAtOf, IsRightFor, IsRow, cache_of, cell_at, expression_in, limit, walked}, lemmas.{StageLaws.{goes_nowhere, searches_say}, RowLaws.{mark_of_row, row_inside}, WalkLaws.{comes_on, walked_on}}}, std.proofs.{Common.{drop, append_assoc, append-nil, get_or-append-add, ◌≢◌}, lemmas.List.{length-append, Elements.All-push}}, re_meter.specs.Meters.fresh, re_trees.proofs.lemmas.LinesLaws.none_in_empty, re_runs.proofs.lemmas.{NextLines.passed_from, CountedBlocks.more_follow, Ranges.{length_range, range_more, line_here}}}

module _ (asked : LineSearch) (t : StepTable) (right : IsRightFor asked t) (plain : (start : StateSet) → slice_get t.sets.keys 1 ≡ Some start → IsPlain (expression_in asked) asked.mode start) where
  abbrev block : Text
  block = asked.line.now

  -- a walk is at the beginning of a line
  pub walks_from : (start : ℕ) → PassesUnmatched (expression_in asked) false block start → start < length block → GoesOverLines asked t (record { start = start; place = start; row = 1 * t.stride })
  walks_from start passed within =
      let none : 0 ≡ start - start = omega arith in
      record {
        passed = passed;
        low = omega arith;
        within = within;
        free = subst (λ n. HasNoNewline (take n (drop start block))) none none_in_empty;
        row = (right.first.start, record { number = 1; row = refl; is = right.first.is_start });
        comes = λ rest set steps is.
            subst (λ n. IsAtOf asked (slice_range block start start ++ rest) (record { set = set; cache = cache_of t; steps = steps }) t (walked n steps) n (1 * t.stride)) none
            (record { set = set; row = record { number = 1; row = refl; is = is }; plain = λ _. plain set is; goes = goes_nowhere (expression_in asked) asked.mode (slice_range block start start ++ rest) _ });
      }

  -- it goes over a byte whose cell is a row
  pub walks_on : (lines : Lines) → IsBlock block → GoesOverLines asked t lines → (slice_index block lines.place ≡ newline → ⊥) → slice_index block lines.place < 256 → cell_at t.classes.items t.pairs.cells lines.row (slice_index block lines.place) < limit
      → GoesOverLines asked t (record { start = lines.start; place = lines.place + 1; row = cell_at t.classes.items t.pairs.cells lines.row (slice_index block lines.place) })
  walks_on lines whole goes other small below =
      let byte = slice_index block lines.place in
      let front = slice_range block lines.start lines.place in
      let j = lines.place - lines.start in
      let low = goes.low in
      let within = goes.within in
      let more = range_more block lines.start lines.place low within in
      let on = (right.sound.reported_too lines.row goes.row.0 byte goes.row.1 small).plain below in
      record {
        passed = goes.passed;
        low = omega (arith, low);
        within = more_follow block lines.place whole within other;
        free = rw more (All-push (λ b. b ≢ newline) front byte goes.free other);
        row = (on.into, on.row);
        comes = λ rest set steps is.
            let line = front ++ byte ∷ rest in
            let first : Stage = record { set = set; cache = cache_of t; steps = steps } in
            let long : length front + 0 ≡ j = omega (arith, length_range block lines.start lines.place (omega (arith, within))) in
            let same : slice_index line j ≡ byte = ap (λ n. get_or line n 0) (sym long) ∙ get_or-append-add front (byte ∷ rest) 0 0 in
            let count : suc j ≡ lines.place + 1 - lines.start = omega (arith, low) in
            let there = comes_on right.sound line first (walked j steps) j lines.row (omega (arith, long, length-append front (byte ∷ rest))) (omega (arith, same, small))
            (rw same below) (goes.comes (byte ∷ rest) set steps is) in
            rw (ap (λ l. l ++ rest) more ∙ append_assoc front (byte ∷ []) rest)
            (subst (λ k. IsAtOf asked line first t (walked k steps) k (cell_at t.classes.items t.pairs.cells lines.row byte)) count
            (rw (walked_on j 1 (suc j) steps (omega arith)) at
            (rw same at there)));
      }

  pub marked : (r : ℕ) → IsRow t r → r / t.stride < length t.marks.items
  marked r (set, row) = omega (arith, row_inside right.sound r set row, right.sound.as_many)

  -- it goes over the newline of a line that isn't matched
  pub walks_over : (lines : Lines) (none : Acceptance) → asked.mode ≡ Search → GoesOverLines asked t lines → slice_index block lines.place ≡ newline → (get_or t.marks.items (lines.row / t.stride) none).at_end ≡ false → lines.place + 1 < length block
      → GoesOverLines asked t (record { start = lines.place + 1; place = lines.place + 1; row = 1 * t.stride })
  walks_over lines none search goes ends not more = walks_from (lines.place + 1) passed more
    where
      line : Text
      line = slice_range block lines.start lines.place

      first : Stage
      first = record { set = right.first.start; cache = cache_of t; steps = fresh }

      searched : Searches (expression_in asked) asked.mode line (cache_of t) (cache_of t) fresh (walked (lines.place - lines.start) fresh) false
      searched =
          let within = goes.within in
          let size = length_range block lines.start lines.place (omega (arith, within)) in
          let came = rw (append-nil line) at (goes.comes [] right.first.start fresh right.first.is_start) in
          let says = mark_of_row right.sound lines.row came.set _ came.row (slice_get-get_or t.marks.items (lines.row / t.stride) none (marked lines.row goes.row)) in
          record {
            first = first;
            stands = right.first.stands line;
            cache = inl refl;
            steps = refl;
            finishes = record {
              place = lines.place - lines.start;
              within = omega (arith, size);
              set = came.set;
              goes = came.goes;
              decides = inr (inr (record { last = sym size; reported = rw not at says.at_end }));
            };
          }

      unmatched : ¬ Matches (expression_in asked) line false
      unmatched m = false≢true ((searches_say false (rw search at searched)).1 m)

      passed : PassesUnmatched (expression_in asked) false block (lines.place + 1)
      passed = passed_from (λ (line : Text). Matches (expression_in asked) line false) block lines.start lines.place (line_here block lines.start lines.place goes.low goes.within goes.free ends) goes.passed unmatched
