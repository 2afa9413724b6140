use Rattle.line_finds.proofs.{Prelude.arith, lemmas.FoundLaws.counted}
use Rattle.line_finds.proofs.found.Found.of.Goals as goal

pub invariant_of-result : goal.invariant_of-result
invariant_of-result c =
    record {
      below = rw c.in_ok-marks.ensures.size c.requires.within;
      marked = λ k low. c.in_ok-marks.ensures.marks k (omega (arith, c.in_ok-marks.ensures.size));
      hits_are = counted c.args.matches c.deref.ensures.value c.count_set-hits.ensures c.in_ok-marks.ensures.size c.in_ok-marks.ensures.marks;
      few = omega (arith, c.in_ok-marks.ensures.size);
    }
