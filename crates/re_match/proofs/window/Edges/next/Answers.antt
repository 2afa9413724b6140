use Rattle.{re_match.proofs.{Prelude.{rules, ℕ, ◌+◌, ◌-◌, ◌<◌, slice_index, arith}, lemmas.{StepSums.{adds_on, passes_all, passes_rest}, WindowLaws.later_by_run}}, re_meter.proofs.lemmas.Adding.only_passed}
use Rattle.re_match.proofs.window.Edges.next.Goals as goal

pub returns-then-start-line : goal.returns-then-start-line
returns-then-start-line c = λ e right.
    let small : (x : ℕ) → slice_index c.args.line.now x < 256 = search rules in
    let later = later_by_run e c.args.line.now c.args.self.now right small c.args.from c.next_in-start.result c.next_in-start.ensures.on.0 c.next_in-start.ensures.passed in (
      (λ i j f. let low = later.1 i j f in omega arith),
      passes_rest _ _ _ _ (omega arith) c.add_passed.ensures,
    )

pub returns : goal.returns
returns c = λ e right.
    let from = c.args.from in let small : (x : ℕ) → slice_index c.args.line.now x < 256 = search rules in
    let start = c.next_in-start.result in let at = c.next_in-start.ensures in
    let high = c.end-end.ensures.low in (
      (later_by_run e c.args.line.now c.args.self.now right small from start at.on.0 at.passed, (high, c.end-end.ensures.border e right)),
      record {
        few = adds_on {first_bytes = start + 1 - from} (only_passed _ (start + 1 - from) _ _ (omega arith) c.add_passed-2.ensures) c.end-end.ensures.passed (omega arith) (omega arith);
        all = omega (arith, passes_all (start - from) (start + 1 - from) _ (omega arith) c.add_passed-2.ensures, c.end-end.ensures.passed.passed);
      },
    )
