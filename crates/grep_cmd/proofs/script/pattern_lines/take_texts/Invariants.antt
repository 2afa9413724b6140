use Rattle.grep_cmd.proofs.Prelude.{◌≡◌, ◌≤◌, ◌-◌, length, List, [], ◌++◌, map, Text, GoesOut, IsOneLineAndFew, HasHanded}
use Rattle.grep_cmd.proofs.script.pattern_lines.take_texts.Given as goal

-- these lines were taken, at most the counted number
abbrev pub invariant-loop-alloc : goal.invariant-loop-alloc
invariant-loop-alloc g l =
    ((reader : _) (handed : List Text) → HasHanded g.R.CountedRead.remaining g.R.CountedRead.failures reader l.fn.lines handed
    → HasHanded g.R.CountedRead.remaining g.R.CountedRead.failures reader l.lines (handed ++ map (λ t. t.items) l.taken.items))
    × GoesOut g.W.CountedWrite.contents g.W.CountedWrite.failures l.fn.out l.out []
    × (length (map (λ t. t.items) l.taken.items) ≤ l.count)
    × (g.R.CountedRead.loan l.lines.lines.reader ≡ g.R.CountedRead.loan l.fn.lines.lines.reader)
    × (IsOneLineAndFew l.fn.lines.lines.ahead → IsOneLineAndFew l.lines.lines.ahead)

abbrev pub decreases-loop-alloc : goal.decreases-loop-alloc
decreases-loop-alloc g l = l.count - l.taken.len
