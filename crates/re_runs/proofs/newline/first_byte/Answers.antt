use Rattle.{re_runs.proofs.{Prelude.{take_rest, arith}, lemmas.NewlineLaws.{none_from, first_from}}, memchr.proofs.lemmas.{FindLemmas.Nowhere-then, ScanLemmas.{unmarked, Nowhere-unset}}, memchr.specs.Find.{is_byte}}
use Rattle.re_runs.proofs.newline.first_byte.Goals as goal

pub returns-then-marks-ne0 : goal.returns-then-marks-ne0
returns-then-marks-ne0 c =
    let i = c.vectors.invariant in let marks = c.marks_of-marks.ensures.marks in
    let within = marks.within _ c.lowest.ensures.set in (
      record {
        low = omega arith;
        high = omega (arith, c.vectors-test.true);
        before = Nowhere-then i.1 (λ k low high. unmarked marks k low (omega arith) (c.lowest.ensures.below _ (omega arith)));
      },
      c.marks_of-marks.ensures.exact _ c.lowest.ensures.set,
    )

pub vectors-preserved : goal.vectors-preserved
vectors-preserved c = (omega (arith, c.vectors-test.true), Nowhere-then c.vectors.invariant.1 (Nowhere-unset c.marks_of-marks.ensures.marks c.if-marks-ne0.false))

pub returns-in_default : goal.returns-in_default
returns-in_default c = none_from _ c.vectors.start c.vectors.invariant.0 (is_byte c.args.byte) c.vectors.invariant.1 (rw take_rest at c.in_default.ensures)

pub returns : goal.returns
returns c = first_from _ c.vectors.start c.vectors.invariant.0 (is_byte c.args.byte) c.vectors.invariant.1 _ (rw take_rest at c.in-Some.ensures)
