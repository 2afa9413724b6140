use Rattle.line_chunks.specs.Working.Finds.{AreBelow}
use Rattle.line_tests.proofs.findings.matches_of.Given as goal

abbrev pub invariant-loop-k : goal.invariant-loop-k
invariant-loop-k l = AreBelow l.k l.matches
