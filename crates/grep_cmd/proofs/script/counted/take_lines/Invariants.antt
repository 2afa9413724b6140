use Rattle.grep_cmd.proofs.Prelude.{◌≡◌, ◌≤◌, ◌-◌, length, List, [], ◌++◌, Text, GoesOut, IsOneLineAndFew, HasHanded}
use Rattle.grep_cmd.proofs.script.counted.take_lines.Given as goal

-- these lines were taken, at most the counted number
abbrev pub invariant-loop-lines : goal.invariant-loop-lines
invariant-loop-lines g l =
    ((reader : _) (handed : List Text) → HasHanded g.R.CountedRead.remaining g.R.CountedRead.failures reader l.fn.lines handed
    → HasHanded g.R.CountedRead.remaining g.R.CountedRead.failures reader l.lines (handed ++ l.taken))
    × GoesOut g.W.CountedWrite.contents g.W.CountedWrite.failures l.fn.out l.out []
    × (length l.taken ≤ l.count)
    × (g.R.CountedRead.loan l.lines.lines.reader ≡ g.R.CountedRead.loan l.fn.lines.lines.reader)
    × (IsOneLineAndFew l.fn.lines.lines.ahead → IsOneLineAndFew l.lines.lines.ahead)

abbrev pub decreases-loop-lines : goal.decreases-loop-lines
decreases-loop-lines g l = l.count - length l.taken
