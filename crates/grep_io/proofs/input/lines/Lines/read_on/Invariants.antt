use Rattle.grep_io.proofs.Prelude.{◌≡◌, ◌-◌, ◌^◌, length, prepend_known, Keeps, Open}
use Rattle.grep_io.proofs.input.lines.Lines.read_on.Given as goal

-- nothing is lost, and nothing has failed
abbrev pub invariant-loop-self : goal.invariant-loop-self
invariant-loop-self g l =
    record {
      may_be_read : g.R.CountedRead.may_be_read l.self-inside.reader;
      still_open : l.self-inside.stage ≡ Open;
      kept : Keeps (prepend_known l.fn.self.lines.ahead (g.R.CountedRead.remaining l.fn.self.lines.reader)) (prepend_known l.self-inside.window.ahead (g.R.CountedRead.remaining l.self-inside.reader));
      none_failed : g.R.CountedRead.failures l.self-inside.reader ≡ g.R.CountedRead.failures l.fn.self.lines.reader;
      same_number : l.self-inside.number ≡ l.fn.self.number;
      same_loan : g.R.CountedRead.loan l.self-inside.reader ≡ g.R.CountedRead.loan l.fn.self.lines.reader;
    }

abbrev pub decreases-loop-self : goal.decreases-loop-self
decreases-loop-self g l = 2 ^ 64 - length l.self-inside.window.ahead
