use Rattle.grep_core.proofs.Prelude.{◌-◌, [], length, take, written, GoesOut, rows_around}
use Rattle.grep_core.proofs.search.around.write_waiting.Given as goal

-- the rows of the lines up to here were written
abbrev pub invariant-loop-k : goal.invariant-loop-k
invariant-loop-k g l =
    GoesOut g.W.CountedWrite.contents g.W.CountedWrite.failures l.fn.out l.out (written [] (take l.k (rows_around l.request.options l.request.many l.request.name.now (l.number - length l.recent.lines) l.recent.lines)))
