use Rattle.{re_match.proofs.Prelude.{arith, ◌+◌, false, Text, Matches, any_literal, lines_of, IsLineFrom}, re_needle.proofs.lemmas.NeededLines.finds_literal, re_runs.proofs.lemmas.NextLines.{none_next, next_from}, re_meter.proofs.lemmas.Adding.adds_within}
use Rattle.re_match.proofs.strings.Look.next_line.Goals as goal

pub returns-in-One-clause-reported : goal.returns-in-One-clause-reported
returns-in-One-clause-reported c = rw c.in-One.is (finds_literal c.in-One.finder (lines_of c.args.block.now) c.next_line_with.result c.next_line_with.ensures.reported)

pub returns-in_err-end-clause-reported : goal.returns-in_err-end-clause-reported
returns-in_err-end-clause-reported c =
    let matched = λ (line : Text). Matches (any_literal c.in-Many.set.value) line false in
    rw (c.from_residual.ensures, c.in-Many.is) (none_next matched c.args.block.now c.first_line-start.result.start c.requires (rw c.deref.ensures at c.first_line-start.ensures.passes) c.in_err-end.ensures)

pub returns-in_err-end-clause-looked : goal.returns-in_err-end-clause-looked
returns-in_err-end-clause-looked c = rw c.in-Many.is (rw c.deref.ensures at c.first_line-start.ensures.looked)

pub returns-clause-reported : goal.returns-clause-reported
returns-clause-reported c =
    let matched = λ (line : Text). Matches (any_literal c.in-Many.set.value) line false in let end = c.in_ok-end.end in
    let cut : IsLineFrom c.args.block.now c.first_line-start.result.start end = c.in_ok-end.ensures in
    rw c.in-Many.is (next_from matched c.args.block.now c.first_line-start.result.start end cut (rw c.deref.ensures at c.first_line-start.ensures.passes) (rw c.deref.ensures at (c.first_line-start.ensures.found end cut)))

pub returns-clause-looked : goal.returns-clause-looked
returns-clause-looked c = rw c.in-Many.is (rw c.deref.ensures at c.first_line-start.ensures.looked)

pub returns-clause-steps : goal.returns-clause-steps
returns-clause-steps c =
    let line = (c.first_line-start.ensures.stops (any_literal c.in-Many.set.value) false).line c.in_ok-end.end c.in_ok-end.ensures in
    adds_within 0 0 c.first_line-start.result.reached (c.in_ok-end.end + 1) _ _ (omega arith) (omega arith) c.first_line-start.ensures.steps
