use Rattle.re_match.proofs.{Prelude.{rules, ℕ, ◌+◌, ◌-◌, ◌<◌, inl, refl, slice_index, arith}, lemmas.{StepSums.adds_on, WindowLaws.{later_by_needle, later_by_bytes}}}
use Rattle.re_match.proofs.prefilter.window_at.Goals as goal

pub returns-then-needle : goal.returns-then-needle
returns-then-needle c = λ e before of right looked over.
    let high = c.end-end.ensures.low in (
      (later_by_needle e c.args.line.now c.args.from c.args.near c.args.needle.now of c.requires.low (omega (arith, c.requires.low, c.requires.within)) c.requires.next c.if-needle.true, (high, c.end-end.ensures.border e right)),
      record { few = adds_on looked c.end-end.ensures.passed (omega arith) (omega arith); all = omega arith },
    )

pub returns-in_default : goal.returns-in_default
returns-in_default c = λ e before of right looked over.
    rw c.rest_of.ensures (
      ((omega arith, λ i j f. f.begins), (omega arith, inl refl)),
      record { few = adds_on looked c.in_default.ensures.none (omega arith) (omega (arith, c.requires.low, c.requires.within)); all = omega (arith, c.in_default.ensures.none.passed) },
    )

pub returns : goal.returns
returns c = λ e before of right looked over.
    let high = c.end-end-2.ensures.low in
    let small : (x : ℕ) → slice_index c.args.line.now x < 256 = search rules in (
      (later_by_bytes e c.args.line.now c.args.from c.args.near c.args.needle.now of c.requires.low (omega (arith, c.requires.low, c.requires.within)) c.requires.next c.args.edges.now right small c.in-Some.start c.in-Some.ensures.low c.in-Some.ensures.high c.in-Some.ensures.outside, (omega (arith, c.in-Some.ensures.high), c.end-end-2.ensures.border e right)),
      record {
        few = adds_on {first = c.in-Some.start - c.args.from} {first_bytes = c.args.near + 1 - c.args.from} (adds_on looked c.in-Some.ensures.steps (omega arith) (omega arith)) c.end-end-2.ensures.passed (omega arith) (omega arith);
        all = omega (arith, c.in-Some.ensures.high, c.in-Some.ensures.steps.passed, c.end-end-2.ensures.passed.passed);
      },
    )
