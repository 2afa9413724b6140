use Rattle.{grep_session.proofs.{Prelude.{◌≡◌, ◌+◌, ◌<◌, ◌↔◌, true, false, IsTrue, [], length, map, get_or, get_or_default, nil_from_length, refl, sym, ◌∙◌, arith, length-map, false≢true, Some, Matches, AddsAtMost, IsNextLine, had_gone, marked_cost, line_text, no_line, matched_expression, wants_whole}, lemmas.{ColumnLoops.{column_done, column_next, column_none, column_pass}, MarkedLemmas.{marked_front, searched_next}}, line_matches.narrow_column.Goals.{After-index, After-is_match}}, std.proofs.Math.ListN.get_or-map, re_search.proofs.lemmas.SameLaws.same_twice, re_meter.proofs.lemmas.Adding.adds_none}
use Rattle.grep_session.proofs.line_matches.narrow_column.Goals as goal

pub returns-in_err-marks-clause-steps : goal.returns-in_err-marks-clause-steps
returns-in_err-marks-clause-steps c = adds_none _ _ _

pub returns-then-len-eq0-clause-ok : goal.returns-then-len-eq0-clause-ok
returns-then-len-eq0-clause-ok c =
    let none = nil_from_length c.args.old.now (sym c.len.ensures ∙ c.if-len-eq0.true) in
    column_done (had_gone c.args.change c.args.old.now) _ _ _ _ 0 _ _ (λ k low high passed. passed (rw none)) (column_none _ _ _ _ _ _)

pub returns-then-len-eq0-clause-steps : goal.returns-then-len-eq0-clause-steps
returns-then-len-eq0-clause-steps c = adds_none _ _ _

pub loop-k-init : goal.loop-k-init
loop-k-init c = record {
  high = omega arith;
  column = column_none _ _ _ _ _ _;
  same = record { same_expression = refl; same_whole = refl; same_room = refl };
  steps = adds_none _ _ _;
}

-- what the mark of the line says
mark : (c : After-index) → c.index.result.now ≡ had_gone c.args.change c.args.old.now c.loop-k.k
mark c =
    let k = c.loop-k.k in
    let here : k < c.len-2.result = omega (arith, c.loop-k-test.true, c.len-k-end.ensures, c.len-2.ensures) in
    c.index.ensures ∙ get_or_default c.in_ok-marks.marks.items k c.index.result.now false (omega (arith, here, c.in_ok-marks.ensures.size)) ∙ c.in_ok-marks.ensures.marks k here

pub loop-k-preserved-then-not-index : goal.loop-k-preserved-then-not-index
loop-k-preserved-then-not-index c =
    let s = c.loop-k.invariant in
    let k = c.loop-k.k in
    let off = sym (mark (goal.at.loop-k-preserved-then-not-index c).After-index) ∙ c.if-not-index.true in
    record {
      high = omega arith;
      column = column_pass _ _ _ _ _ k _ _ (λ h passed. passed off) s.column;
      same = s.same;
      steps = marked_front (had_gone c.args.change c.args.old.now) 1 (map line_text c.args.chunk.now) k (k + 1) _ _ (omega arith) s.steps;
    }

-- whether the line is matched, and the steps up to here
asked : (c : After-is_match) → had_gone c.args.change c.args.old.now c.loop-k.k ≡ true → let texts = map line_text c.args.chunk.now in (IsTrue c.is_match.result ↔ Matches (matched_expression c.args.matcher.now) (get_or texts c.loop-k.k []) (wants_whole c.args.matcher.now))
    × AddsAtMost (marked_cost (had_gone c.args.change c.args.old.now) 1 texts (c.loop-k.k + 1)) c.args.meter.now c.is_match.new.meter
asked c on =
    let s = c.loop-k.invariant in
    let text = get_or-map line_text c.args.chunk.now c.loop-k.k no_line in
    let reported = rw s.same.same_expression at (rw s.same.same_whole at
    (rw (c.line.ensures.line ∙ sym text) at c.is_match.ensures.reported)) in
    let spent = rw c.line.ensures.line at c.is_match.ensures.steps in
    (reported, searched_next (had_gone c.args.change c.args.old.now) _ c.loop-k.k _ _ _ _ on text s.steps spent)

pub loop-k-preserved-then-not-is_match : goal.loop-k-preserved-then-not-is_match
loop-k-preserved-then-not-is_match c =
    let s = c.loop-k.invariant in
    let a = asked (goal.at.loop-k-preserved-then-not-is_match c).After-is_match (sym (mark (goal.at.loop-k-preserved-then-not-is_match c).After-index) ∙ c.if-not-index.false) in
    record {
      high = omega arith;
      column = column_pass _ _ _ _ _ c.loop-k.k _ _ (λ h passed matched. false≢true (sym c.if-not-is_match.true ∙ a.0.1 matched)) s.column;
      same = same_twice c.is_match.ensures.same s.same;
      steps = a.1;
    }

pub loop-k-preserved : goal.loop-k-preserved
loop-k-preserved c =
    let s = c.loop-k.invariant in
    let k = c.loop-k.k in
    let texts = map line_text c.args.chunk.now in
    let a = asked (goal.at.loop-k-preserved c).After-is_match (sym (mark (goal.at.loop-k-preserved c).After-index) ∙ c.if-not-index.false) in
    let one : k < length texts = omega (arith, length-map c.args.chunk.now line_text) in
    let next : IsNextLine (matched_expression c.args.matcher.now) (wants_whole c.args.matcher.now) texts k (Some k) = (omega arith, one, a.0.0 c.if-not-is_match.false, λ j low high. absurd (omega arith)) in
    record {
      high = omega arith;
      column = column_next _ _ _ _ _ k k _ _ _ next c.in_ok-note.ensures.ok s.column;
      same = same_twice c.is_match.ensures.same s.same;
      steps = a.1;
    }

pub returns-in_err-note-clause-same : goal.returns-in_err-note-clause-same
returns-in_err-note-clause-same c = same_twice c.is_match.ensures.same c.loop-k.invariant.same

pub returns-in_err-note-clause-steps : goal.returns-in_err-note-clause-steps
returns-in_err-note-clause-steps c =
    marked_front _ 1 (map line_text c.args.chunk.now) (c.loop-k.k + 1) (length c.args.chunk.now) _ _ (omega arith) (asked (goal.at.returns-in_err-note-clause-steps c).After-is_match (sym (mark (goal.at.returns-in_err-note-clause-steps c).After-index) ∙ c.if-not-index.false)).1

pub returns-clause-ok : goal.returns-clause-ok
returns-clause-ok c =
    column_done _ _ _ _ _ _ _ _ (λ j low high passed. absurd (omega (arith, length-map c.args.chunk.now line_text))) c.loop-k.invariant.column

pub returns-clause-steps : goal.returns-clause-steps
returns-clause-steps c = marked_front _ 1 _ _ _ _ _ c.loop-k.invariant.high c.loop-k.invariant.steps
