use Rattle.re_runs.proofs.{Prelude.{not, eqb, arith, AllPass}, lemmas.RunLaws.nowhere_marked}
use Rattle.re_runs.proofs.probes.Probes.next_marks.Goals as goal

pub quiet-preserved : goal.quiet-preserved
quiet-preserved g c = record {
  low = omega arith;
  high = omega arith;
  passed = nowhere_marked (AllPass (not (eqb g.row.EACH 0)) c.args.self.now c.args.line.now) _ _ _ c.quiet.invariant.passed c.quiet.invariant.each c.quiet-test.true;
  each = c.marks-marks-in-quiet.ensures.each;
  within = c.marks-marks-in-quiet.ensures.within;
}
