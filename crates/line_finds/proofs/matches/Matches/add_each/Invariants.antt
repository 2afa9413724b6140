use Rattle.line_finds.proofs.Prelude.{◌≡◌, ◌++◌, take, pairs_of, moved_to}
use Rattle.line_finds.proofs.matches.Matches.add_each.Given as goal

-- the first pairs are added
abbrev pub invariant-loop-pair : goal.invariant-loop-pair
invariant-loop-pair l = l.self ≡ l.fn.self ++ moved_to l.at l.from l.to (pairs_of (take l.pair-index l.pair-items))
