use Rattle.{grep_io.proofs.{Prelude.{◌≡◌, ◌+◌, ◌-◌, ◌≤◌, length, rules, arith, waiting}, lemmas.WindowBlocks.{past_waiting, passed_before, ahead_after}}, re_trees.proofs.lemmas.LinesLaws.none_in_empty}
use Rattle.grep_io.proofs.input.window.Window.pass.Goals as goal

pub overflow_sub-self : goal.overflow_sub-self
overflow_sub-self c =
    let a = c.self.inside in
    let passes = rw (← c.self.view_is) at c.requires in
    let waits : c.len.result ≡ length (waiting a.shown a.spill.items) = rw (← c.empty_where_shown.ensures) (search rules) in
    omega (arith, past_waiting a.buffer.items (waiting a.shown a.spill.items) a.start a.last a.end c.args.count (omega arith) (omega arith) c.self.invariant.cut_off c.self.invariant.unfinished passes c.if-count-gt0.true)

pub overflow_add-self : goal.overflow_add-self
overflow_add-self c =
    let a = c.self.inside in
    let passes = rw (← c.self.view_is) at c.requires in
    let waits : c.len.result ≡ length (waiting a.shown a.spill.items) = rw (← c.empty_where_shown.ensures) (search rules) in
    omega (arith, passed_before a.buffer.items (waiting a.shown a.spill.items) a.start a.last a.end c.args.count (omega arith) (omega arith) c.self.invariant.cut_off c.self.invariant.unfinished passes c.if-count-gt0.true)

pub invariant_of-self : goal.invariant_of-self
invariant_of-self c =
    let a = c.self.inside in
    let i = c.self.invariant in
    let passes = rw (← c.self.view_is) at c.requires in
    let waits : c.len.result ≡ length (waiting a.shown a.spill.items) = rw (← c.empty_where_shown.ensures) (search rules) in
    let before : a.start + (c.args.count - c.len.result) ≤ a.last = omega (arith, passed_before a.buffer.items (waiting a.shown a.spill.items) a.start a.last a.end c.args.count (omega arith) (omega arith) i.cut_off i.unfinished passes c.if-count-gt0.true) in
    record {
      full = i.full;
      ordered = before;
      before_end = i.before_end;
      within = i.within;
      ended = λ below. i.ended (omega arith);
      cut_off = i.cut_off;
      shown_fits = tt;
      unfinished = rw c.clear.ensures.items none_in_empty;
    }

pub returns-then-count-gt0-clause-ahead : goal.returns-then-count-gt0-clause-ahead
returns-then-count-gt0-clause-ahead c =
    let a = c.self.inside in
    let i = c.self.invariant in
    let passes = rw (← c.self.view_is) at c.requires in
    let waits : c.len.result ≡ length (waiting a.shown a.spill.items) = rw (← c.empty_where_shown.ensures) (search rules) in
    rw (← c.self.view_is, c.clear.ensures.items, waits) (ahead_after a.buffer.items (waiting a.shown a.spill.items) a.start a.last a.end c.args.count (omega arith) (omega arith) i.cut_off i.unfinished passes c.if-count-gt0.true i.before_end)
