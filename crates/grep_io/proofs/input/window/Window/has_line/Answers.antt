use Rattle.grep_io.proofs.{Prelude.{arith, waiting}, lemmas.WindowBlocks.whole_line}
use Rattle.grep_io.proofs.input.window.Window.has_line.Goals as goal

pub returns : goal.returns
returns c =
    let a = c.self.inside in
    let i = c.self.invariant in
    rw (← c.self.view_is) (whole_line a.buffer.items (waiting a.shown a.spill.items) a.start a.last a.end i.ordered i.before_end (omega arith) i.ended i.cut_off i.unfinished)
