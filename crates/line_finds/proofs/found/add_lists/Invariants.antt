use Rattle.line_finds.proofs.Prelude.{AreAdded}
use Rattle.line_finds.proofs.found.add_lists.Given as goal

-- the parts of the first lines are added
abbrev pub invariant-loop-k : goal.invariant-loop-k
invariant-loop-k l = AreAdded l.at l.from l.k l.fn.parts l.other.parts l.parts
