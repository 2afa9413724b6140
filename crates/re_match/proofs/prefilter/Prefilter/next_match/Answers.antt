use Rattle.{re_match.proofs.{Prelude.{false, ◌+◌, ◌-◌, ◌≡◌, drop, Some, arith, length-drop, take_rest, look_cost, runs_of}, lemmas.StepSums.{passes, passes_all, passes_rest}}, re_needle.proofs.lemmas.NeedleLaws.{lacks_part, all_is_part}, re_meter.proofs.lemmas.Adding.only_passed, re_runs.proofs.lemmas.RunLaws.run_whole}
use Rattle.re_match.proofs.prefilter.Prefilter.next_match.Goals as goal

pub returns-in_default : goal.returns-in_default
returns-in_default c = λ e right edges. c.next.ensures e edges

pub returns-in_default-find : goal.returns-in_default-find
returns-in_default-find c = λ e right edges. (
  lacks_part e c.in-Some.needle (rw c.in-Some.is at right.needle) c.args.line.now false c.args.from (rw take_rest at c.in_default-find.ensures.found),
  passes_rest _ _ _ _ (length-drop c.args.from c.args.line.now) (rw take_rest at c.in_default-find.ensures.counted),
)

pub window_at-requires-clause-next : goal.window_at-requires-clause-next
window_at-requires-clause-next c =
    let same : c.in-Some-find.place ≡ c.args.from + c.in-Some-find.place - c.args.from = omega arith in
    rw same at (rw take_rest at c.in-Some-find.ensures.found)

pub returns-then-not-needle : goal.returns-then-not-needle
returns-then-not-needle c = λ e right edges.
    c.window_at.ensures e c.args.meter.now (rw c.in-Some.is at right.needle) edges
    (only_passed (c.args.from + c.in-Some-find.place + 1 - c.args.from) (look_cost (drop c.args.from c.args.line.now) (Some c.in-Some-find.place)) _ _ (omega arith) (rw take_rest at c.in-Some-find.ensures.counted))
    (let high = (rw take_rest at c.in-Some-find.ensures.found).0.high in
    passes_all _ _ _ (omega arith) (rw take_rest at c.in-Some-find.ensures.counted))

pub returns-in_default-longest_end : goal.returns-in_default-longest_end
returns-in_default-longest_end c = λ e right edges.
    absurd (c.in_default-longest_end.ensures (run_whole (runs_of c.in-Some.needle.finder) c.args.line.now c.args.from c.in-Some-find.place (omega arith) (rw take_rest at c.in-Some-find.ensures.found).1))

pub returns : goal.returns
returns c = λ e right edges.
    let part = all_is_part e c.in-Some.needle (rw c.in-Some.is at right.needle) c.args.line.now c.if-not-needle.false c.args.from c.in-Some-find.place c.in-Some-longest_end.end (omega (arith, c.requires)) (rw take_rest at c.in-Some-find.ensures.found) c.in-Some-longest_end.ensures in
    let counted = rw take_rest at c.in-Some-find.ensures.counted in
    let high = (rw take_rest at c.in-Some-find.ensures.found).0.high in (
      part,
      record { few = passes (c.in-Some-longest_end.end - c.args.from) (look_cost (drop c.args.from c.args.line.now) (Some c.in-Some-find.place)) _ (omega (arith, part.found.not_empty)) counted; all = passes_all _ _ _ (omega arith) counted },
    )
