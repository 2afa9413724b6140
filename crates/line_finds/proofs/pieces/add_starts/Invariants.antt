use Rattle.line_finds.proofs.Prelude.{◌≡◌, ◌+◌, ◌-◌, ◌++◌, map, take}
use Rattle.line_finds.proofs.pieces.add_starts.Given as goal

abbrev pub invariant-loop-other : goal.invariant-loop-other
invariant-loop-other l = l.starts.items ≡ l.fn.starts.items ++ map (λ other. other - l.start + l.at) (take l.other-index l.others)
