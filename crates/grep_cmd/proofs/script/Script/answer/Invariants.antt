use Rattle.grep_cmd.proofs.Prelude.{state_of, ◌≡◌, ◌-◌, ◌^◌, IsOneLineAndFew, AnsweredSoFar}
use Rattle.grep_cmd.proofs.script.Script.answer.Given as goal

-- the commands so far were answered
abbrev pub invariant-loop-fault : goal.invariant-loop-fault
invariant-loop-fault g l =
    AnsweredSoFar (λ r. g.R.CountedRead.remaining r.now) (λ r. g.R.CountedRead.failures r.now) g.W.CountedWrite.contents g.W.CountedWrite.failures l.initial.lines.lines.reader l.fn.self l.fn.meter l.fn.writer l.lines (state_of l.self-inside.session l.self-inside.has_text) l.meter l.writer l.end
    × (l.lines.lines.reader.ghost_name ≡ l.initial.lines.lines.reader.ghost_name)
    × IsOneLineAndFew l.lines.lines.ahead

abbrev pub decreases-loop-fault : goal.decreases-loop-fault
decreases-loop-fault g l = 2 ^ 64 - l.lines.number
