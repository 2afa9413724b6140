use Rattle.{grep_core.proofs.lemmas.OneLineLemmas.err_with, grep_utility.proofs.lemmas.CollectingLemmas.{so_far_none, so_far_line, all_added, some_added, fewer_left}}
use Rattle.grep_utility.proofs.patterns.add_lines.Goals as goal

pub loop-texts-init : goal.loop-texts-init
loop-texts-init g c = so_far_none _ _ _ _ c.requires.none_ahead c.requires.still_open c.requires.none_handed

pub loop-texts-preserved : goal.loop-texts-preserved
loop-texts-preserved g c = so_far_line g.R.CountedRead.remaining g.R.CountedRead.failures _ c.loop-texts.lines _ _ _ c.loop-texts.invariant _ _ (rw c.in-Ok-true.field-0-test at c.in-Ok-true.ensures.next) c.line.ensures c.in_ok-add_text-in-Ok-true.ensures

pub returns-in-Ok-false-clause-ok : goal.returns-in-Ok-false-clause-ok
returns-in-Ok-false-clause-ok g c = all_added g.R.CountedRead.remaining g.R.CountedRead.failures c.args.lines.now.lines.reader c.loop-texts.lines c.next_numbered.new.self _ _ c.loop-texts.invariant (rw c.in-Ok-false.field-0-test at c.in-Ok-false.ensures.next)

pub returns-in-Err-Device-clause-ok : goal.returns-in-Err-Device-clause-ok
returns-in-Err-Device-clause-ok g c = some_added g.R.CountedRead.remaining g.R.CountedRead.failures c.args.lines.now.lines.reader c.loop-texts.lines c.next_numbered.new.self _ _ c.loop-texts.invariant (rw c.in-Err-Device.field-0-is at c.in-Err-Device.ensures.next)

pub loop-texts-smaller : goal.loop-texts-smaller
loop-texts-smaller g c = fewer_left g.R.CountedRead.remaining g.R.CountedRead.failures c.args.lines.now.lines.reader c.loop-texts.lines c.next_numbered.new.self _ _ c.loop-texts.invariant (rw c.in-Ok-true.field-0-test at c.in-Ok-true.ensures.next)

pub returns-in_err-add_text-in-Ok-true-clause-err : goal.returns-in_err-add_text-in-Ok-true-clause-err
returns-in_err-add_text-in-Ok-true-clause-err g c =
    let s = c.loop-texts.invariant in
    let next = rw c.in-Ok-true.field-0-test at c.in-Ok-true.ensures.next in
    let handed = next c.args.lines.now.lines.reader s.lines s.handed in
    err_with c.from_residual.result handed.hands.none_failed

pub returns-in-Err-Memory-clause-err : goal.returns-in-Err-Memory-clause-err
returns-in-Err-Memory-clause-err g c =
    let s = c.loop-texts.invariant in
    let next = rw c.in-Err-Memory.field-0-is at c.in-Err-Memory.ensures.next in
    let handed = next c.args.lines.now.lines.reader s.lines s.handed in
    handed.hands.none_failed
