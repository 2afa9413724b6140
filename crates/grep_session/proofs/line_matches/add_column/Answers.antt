use Rattle.{grep_session.proofs.{Prelude.{Change, Steps, List, KeptLine, false, false≢true, had_gone, is_sought, marked_cost, ℕ, true, [], get_or, ◌≡◌, ◌+◌, ◌<◌, ◌≤◌, length, map, Some, sym, ap, ◌∙◌, arith, refl, length-map, Matches, Text, terminated, AddsAtMost, line_text, IsNextLine, next_line_cost, matched_expression, wants_whole}, lemmas.{ColumnLoops.{column_none, column_next, column_done, column_of}, MarkedLemmas.all_marked, NextLineLemmas.{none_from, next_there, place_fits, bytes_up_to, bytes_within, bytes_rest}}, line_matches.add_column.Goals.{After-narrow_column, After-number_at-k}}, re_search.proofs.lemmas.SameLaws.same_twice, re_runs.proofs.lemmas.NextLines.block_lines, re_meter.proofs.lemmas.Adding.{adds_both, adds_within, adds_none}}
use Rattle.grep_session.proofs.line_matches.add_column.Goals as goal

-- the next line that is matched, and its bytes
found : (c : After-number_at-k) → let texts = map line_text c.args.chunk.now in IsNextLine (matched_expression c.loop-from.matcher) (wants_whole c.loop-from.matcher) texts c.loop-from.from (Some c.number_at-k.result) × (c.in-Some.at.end + 1 ≡ next_line_cost texts c.loop-from.from (Some c.number_at-k.result))
found c =
    next_there _ _ _ _ _ _ _ _ _ c.text_from.ensures.lines c.in-Some.ensures.reported (omega (arith, length-map c.args.chunk.now line_text)) c.start.ensures.start (sym (length-map c.args.chunk.now line_text)) c.number_at-k.ensures.at

narrowed : (c : After-narrow_column) → AddsAtMost (marked_cost (is_sought c.args.change c.args.old.now) 1 (map line_text c.args.chunk.now) (length c.args.chunk.now)) c.args.meter.now c.narrow_column.new.meter
narrowed c =
    rw c.if-change.true c.narrow_column.ensures.steps

pub returns-then-change-clause-ok : goal.returns-then-change-clause-ok
returns-then-change-clause-ok c =
    column_of (is_sought c.args.change c.args.old.now) _ _ (had_gone c.args.change c.args.old.now) _ _ _ _ (λ k off. cc c.if-change.true) c.in_ok-narrow_column.ensures.ok

pub returns-then-change-clause-steps : goal.returns-then-change-clause-steps
returns-then-change-clause-steps c = narrowed (goal.at.returns-then-change-clause-steps c).After-narrow_column

pub returns-in_err-narrow_column-clause-steps : goal.returns-in_err-narrow_column-clause-steps
returns-in_err-narrow_column-clause-steps c = narrowed (goal.at.returns-in_err-narrow_column-clause-steps c).After-narrow_column

-- lines that are all searched cost their bytes
plain : (change : Change) (old : List (ℕ × ℕ)) (lines : List KeptLine) {before after : Steps} → change.narrower ≡ false → AddsAtMost (length (terminated (map line_text lines))) before after
    → AddsAtMost (marked_cost (is_sought change old) 1 (map line_text lines) (length lines)) before after
plain change old lines all spent =
    rw all
    (rw (all_marked _ _ (length-map lines line_text)) at spent)

pub loop-from-init : goal.loop-from-init
loop-from-init c = record {
  within = omega arith;
  column = column_none (λ k. true) (matched_expression c.args.matcher.now) (wants_whole c.args.matcher.now) c.args.number (map line_text c.args.chunk.now) _;
  same = record { same_expression = refl; same_whole = refl; same_room = refl };
  steps = adds_none _ _ _;
}

pub overflow_add-start : goal.overflow_add-start
overflow_add-start c =
    let texts = map line_text c.args.chunk.now in
    let within : c.loop-from.from ≤ length texts = omega (arith, length-map c.args.chunk.now line_text) in
    let small = place_fits (λ (line : Text). Matches (matched_expression c.loop-from.matcher) line (wants_whole c.loop-from.matcher)) texts c.loop-from.from _ c.in-Some.at c.text_from.ensures.lines c.in-Some.ensures.reported within _ c.start.ensures.start c.start.ensures.fits in
    omega arith

pub returns-in_default-clause-ok : goal.returns-in_default-clause-ok
returns-in_default-clause-ok c =
    let i = c.loop-from.invariant in
    let P = λ (line : Text). Matches (matched_expression c.loop-from.matcher) line (wants_whole c.loop-from.matcher) in
    let texts = map line_text c.args.chunk.now in
    let none : (k : ℕ) → c.loop-from.from ≤ k → k < length texts → ¬ Matches (matched_expression c.args.matcher.now) (get_or texts k []) (wants_whole c.args.matcher.now) = rw (← i.same.same_expression, ← i.same.same_whole) (none_from P texts c.loop-from.from _ c.text_from.ensures.lines c.in_default.ensures.reported) in
    column_of (is_sought c.args.change c.args.old.now) _ _ (λ k. true) _ _ _ _ (λ k off. absurd (false≢true (sym off))) (column_done (λ k. true) _ _ _ _ _ _ _ (λ k low high passed. none k low high) i.column)

pub returns-in_default-clause-same : goal.returns-in_default-clause-same
returns-in_default-clause-same c = same_twice c.next_matched.ensures.same c.loop-from.invariant.same

pub returns-in_default-clause-steps : goal.returns-in_default-clause-steps
returns-in_default-clause-steps c =
    let texts = map line_text c.args.chunk.now in
    let bytes = ap length (block_lines _ c.text_from.ensures.block) ∙ ap (λ ls. length (terminated ls)) c.text_from.ensures.lines in
    let spent = rw bytes at c.in_default.ensures.steps in
    plain c.args.change c.args.old.now c.args.chunk.now c.if-change.false (rw (bytes_rest texts c.loop-from.from) at (adds_both _ _ _ _ _ _ _ c.loop-from.invariant.steps spent))

pub returns-in_err-note-clause-same : goal.returns-in_err-note-clause-same
returns-in_err-note-clause-same c = same_twice c.next_matched.ensures.same c.loop-from.invariant.same

pub returns-in_err-note-clause-steps : goal.returns-in_err-note-clause-steps
returns-in_err-note-clause-steps c =
    let texts = map line_text c.args.chunk.now in
    let k = c.number_at-k.result in
    let there = found (goal.at.returns-in_err-note-clause-steps c).After-number_at-k in
    let spent = rw there.1 at c.in-Some.ensures.steps in
    plain c.args.change c.args.old.now c.args.chunk.now c.if-change.false (adds_within _ _ _ _ _ _ (bytes_within texts (k + 1)) (bytes_within texts (k + 1)) (rw (bytes_up_to texts c.loop-from.from (k + 1) (omega arith)) at (adds_both _ _ _ _ _ _ _ c.loop-from.invariant.steps spent)))

pub overflow_add-from : goal.overflow_add-from
overflow_add-from c =
    let there = found (goal.at.overflow_add-from c).After-number_at-k in
    omega (arith, length-map c.args.chunk.now line_text)

pub loop-from-smaller : goal.loop-from-smaller
loop-from-smaller c =
    let there = found (goal.at.loop-from-smaller c).After-number_at-k in
    omega (arith, length-map c.args.chunk.now line_text)

pub loop-from-preserved : goal.loop-from-preserved
loop-from-preserved c =
    let i = c.loop-from.invariant in
    let texts = map line_text c.args.chunk.now in
    let from = c.loop-from.from in
    let k = c.number_at-k.result in
    let there = found (goal.at.loop-from-preserved c).After-number_at-k in
    let next : IsNextLine (matched_expression c.args.matcher.now) (wants_whole c.args.matcher.now) texts from (Some k) = rw (← i.same.same_expression, ← i.same.same_whole) there.0 in
    let spent = rw there.1 at c.in-Some.ensures.steps in
    record {
      within = omega (arith, length-map c.args.chunk.now line_text);
      column = column_next (λ k. true) (matched_expression c.args.matcher.now) (wants_whole c.args.matcher.now) c.args.number texts from k _ _ _ next c.in_ok-note.ensures.ok i.column;
      same = same_twice c.next_matched.ensures.same i.same;
      steps = rw (bytes_up_to texts from (k + 1) (omega arith)) at (adds_both _ _ _ _ _ _ _ i.steps spent);
    }

pub returns-clause-ok : goal.returns-clause-ok
returns-clause-ok c =
    column_of (is_sought c.args.change c.args.old.now) _ _ (λ k. true) _ _ _ _ (λ k off. absurd (false≢true (sym off)))
    (column_done (λ k. true) _ _ _ _ _ _ _
    (λ k low high passed. absurd (omega (arith, length-map c.args.chunk.now line_text))) c.loop-from.invariant.column)

pub returns-clause-steps : goal.returns-clause-steps
returns-clause-steps c =
    let within = bytes_within (map line_text c.args.chunk.now) c.loop-from.from in
    plain c.args.change c.args.old.now c.args.chunk.now c.if-change.false (adds_within _ _ _ _ _ _ within within c.loop-from.invariant.steps)
