use Rattle.{std.proofs.Common.◌+◌, line_chunks.specs.Working.Finds.AreBelow}
use Rattle.line_tests.proofs.findings.note_line.Given as goal

abbrev pub invariant-loop-p : goal.invariant-loop-p
invariant-loop-p l = AreBelow (l.k + 1) l.matches
