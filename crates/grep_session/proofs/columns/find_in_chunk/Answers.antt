use Rattle.grep_session.proofs.{Prelude.{◌≡◌, All, HasChanged, SearchesEach, length, map, ap, length-map, AreBelow, FoundIn, line_text, IsKept, matched_expression}, lemmas.ColumnLaws.{column_right, column_same, chunk_steps, chunk_begun, matches_below}, columns.find_in_chunk.Goals.{After-find_parts, In_ok-new}}
use Rattle.grep_session.proofs.columns.find_in_chunk.Goals as goal

-- the steps up to the search for parts
spent : (c : After-find_parts) → let es = map matched_expression c.args.matchers.now in let options = c.args.search.now.options in (h : HasChanged c.args.change es options) → All (IsKept h.before h.was) c.args.chunk.now
    → SearchesEach c.args.change h.gone h.come es options (map line_text c.args.chunk.now) c.args.meter.now c.find_parts.new.meter
spent c = λ h k.
    chunk_steps h c.args.chunk.now c.matches-old.result.now k c.matches-old.ensures.at _ _ c.find_matches.ensures.steps c.in_ok-new.new _ c.in_ok-new.ensures.ok (rw c.find_matches.ensures.same_matchers.same_expressions at c.find_parts.ensures.steps)

-- the pairs are of the chunk's lines
below : (c : In_ok-new) → AreBelow (length c.args.chunk.now) c.in_ok-new.new
below c =
    rw (length-map c.args.chunk.now line_text) at
    (matches_below _ _ _ _ _ _ c.in_ok-new.ensures.ok)

pub returns-in_err-new-clause-steps : goal.returns-in_err-new-clause-steps
returns-in_err-new-clause-steps c = λ h k. chunk_begun h c.args.chunk.now c.matches-old.result.now k c.matches-old.ensures.at _ _ c.find_matches.ensures.steps

pub returns-then-is_same-clause-steps : goal.returns-then-is_same-clause-steps
returns-then-is_same-clause-steps c = λ h k. chunk_begun h c.args.chunk.now c.matches-old.result.now k c.matches-old.ensures.at _ _ c.find_matches.ensures.steps

pub returns-then-is_same-clause-ok : goal.returns-then-is_same-clause-ok
returns-then-is_same-clause-ok c = λ h k.
    (tt, column_same h _ _ k c.matches-old.ensures.at _ c.in_ok-new.ensures.ok (c.is_same.ensures c.if-is_same.true))

pub find_parts-requires-clause-new : goal.find_parts-requires-clause-new
find_parts-requires-clause-new c = below (goal.at.find_parts-requires-clause-new c).In_ok-new

pub of-requires-clause-within : goal.of-requires-clause-within
of-requires-clause-within c = rw c.len.ensures (below (goal.at.of-requires-clause-within c).In_ok-new)

pub returns-in_err-parts-clause-steps : goal.returns-in_err-parts-clause-steps
returns-in_err-parts-clause-steps c = spent (goal.at.returns-in_err-parts-clause-steps c).After-find_parts

pub returns-in_err-found-clause-steps : goal.returns-in_err-found-clause-steps
returns-in_err-found-clause-steps c = spent (goal.at.returns-in_err-found-clause-steps c).After-find_parts

pub returns-clause-steps : goal.returns-clause-steps
returns-clause-steps c = spent (goal.at.returns-clause-steps c).After-find_parts

pub returns-clause-ok : goal.returns-clause-ok
returns-clause-ok c = λ h k.
    let parts = rw c.find_matches.ensures.same_matchers.same_expressions at c.in_ok-parts.ensures.ok in
    let right = column_right h c.args.chunk.now c.matches-old.result.now k c.matches-old.ensures.at c.in_ok-new.new c.in_ok-new.ensures.ok c.in_ok-parts.parts parts in
    let same : c.in_ok-found.found ≡ record { size = length c.args.chunk.now; pairs = c.in_ok-new.new; parts = c.in_ok-parts.parts } = cc (c.in_ok-found.ensures, c.len.ensures) in
    (ap (λ (f : FoundIn). f.size) same, rw same right)
