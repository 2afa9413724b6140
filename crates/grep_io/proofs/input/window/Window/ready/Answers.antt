use Rattle.grep_io.proofs.{Prelude.{◌≤◌, ◌++◌, ◌≡◌, length, slice_range, arith, waiting}, lemmas.WindowBlocks.{block_range, ahead_begins}}
use Rattle.grep_io.proofs.input.window.Window.ready.Goals as goal

pub returns-clause-block : goal.returns-clause-block
returns-clause-block c =
    let a = c.self.inside in
    let i = c.self.invariant in
    rw c.deref.ensures.value (block_range a.buffer.items (waiting a.shown a.spill.items) a.start a.last a.end i.ordered i.before_end (omega arith) i.ended i.cut_off)

pub returns-clause-ahead : goal.returns-clause-ahead
returns-clause-ahead c =
    let a = c.self.inside in
    let within : a.end ≤ length a.buffer.items = omega arith in
    let whole = waiting a.shown a.spill.items ++ slice_range a.buffer.items a.start a.end in
    let long : c.len.result ≡ length whole = cc (c.len.ensures, c.self.view_is) in
    rw (← c.self.view_is, c.deref.ensures.value) (slice_range a.buffer.items a.last a.end, ahead_begins a.buffer.items (waiting a.shown a.spill.items) a.start a.last a.end c.self.invariant.ordered c.self.invariant.before_end within (omega arith))
