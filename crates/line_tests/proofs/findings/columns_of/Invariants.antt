use Rattle.{std.proofs.Common.{◌≡◌, length, take}, line_chunks.specs.Working.Chunks.FitColumns}
use Rattle.line_tests.proofs.findings.columns_of.Given as goal

abbrev pub invariant-loop-i : goal.invariant-loop-i
invariant-loop-i g l = (length l.columns.items ≡ l.i) × FitColumns (take l.i l.lines) l.columns.items
