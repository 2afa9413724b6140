use Rattle.{re_match.proofs.{Prelude.{inl, inr, runs_of}, lemmas.SweptLines.{stops_seen, stops_inside, stops_matched, stops_at_head}}, re_needle.proofs.lemmas.NeededLines.passes_unmatched_run, re_runs.proofs.lemmas.Looks.look_within}
use Rattle.re_match.proofs.prefilter.Prefilter.first_line.Goals as goal

pub returns-then-is_inside-clause-passes : goal.returns-then-is_inside-clause-passes
returns-then-is_inside-clause-passes c = λ e is. rw c.to-then-is_inside.ensures (passes_unmatched_run e _ c.args.whole (rw c.in-Some.is at is.needle).needed c.args.block.now _ c.first_line_with_run-swept.ensures.passes)

pub returns-then-is_inside-clause-stops : goal.returns-then-is_inside-clause-stops
returns-then-is_inside-clause-stops c = λ e is.
    let needle = rw c.in-Some.is at is.needle in let of = c.first_line_with_run-swept.ensures in
    let (at, place, before) = c.is_inside.ensures c.if-is_inside.true in
    rw (c.to-then-is_inside.ensures, c.bytes_over-reached.ensures, c.if-whole.true)
    (stops_inside e (runs_of c.in-Some.needle.finder) c.args.block.now c.first_line_with_run-swept.result at (needle.first c.if-needle.true) place of.found before of.stops)

pub returns-then-has_run-clause-passes : goal.returns-then-has_run-clause-passes
returns-then-has_run-clause-passes c = λ e is. rw c.to-then-has_run.ensures (passes_unmatched_run e _ c.args.whole (rw c.in-Some.is at is.needle).needed c.args.block.now _ c.first_line_with_run-swept.ensures.passes)

pub returns-then-has_run-clause-stops : goal.returns-then-has_run-clause-stops
returns-then-has_run-clause-stops c = λ e is.
    let needle = rw c.in-Some.is at is.needle in let of = c.first_line_with_run-swept.ensures in
    let (at, place, free) = c.has_run.ensures c.if-has_run.true in
    let low = rw place at of.low in
    rw (c.to-then-has_run.ensures, c.bytes_over-reached.ensures, c.if-not-whole.true) (stops_matched e (runs_of c.in-Some.needle.finder) c.args.block.now c.first_line_with_run-swept.result at (needle.enough c.if-needle-2.true) needle.some place of.found low free of.stops)

pub returns-clause-passes : goal.returns-clause-passes
returns-clause-passes c = λ e is. rw c.to-2.ensures (passes_unmatched_run e _ c.args.whole (rw c.in-Some.is at is.needle).needed c.args.block.now _ c.first_line_with_run-swept.ensures.passes)

pub returns-clause-stops : goal.returns-clause-stops
returns-clause-stops c = λ e is.
    let needle = rw c.in-Some.is at is.needle in let of = c.first_line_with_run-swept.ensures in
    rw (c.to-2.ensures, c.bytes_over-reached.ensures) (elim c.first_place-first.ensures [
      | inl same ↦ rw same (stops_seen e _ _ _ _ (look_within _ _) of.stops)
      | inr (first, any, free, place) ↦
          let low = rw place at of.low in
          rw any (stops_at_head e _ _ _ _ (is.begin free) (needle.first first) needle.some place of.found low of.stops)
    ])
