use Rattle.grep_session.proofs.{Prelude.arith, lemmas.FileLemmas.{messages_none, messages_on, messages_last, messages_stop, messages_all}}
use Rattle.grep_session.proofs.report.write_messages.Goals as goal

pub loop-file-init : goal.loop-file-init
loop-file-init g c = λ es kept. messages_none _ c.args.files.now c.args.out.now

pub returns-in_err-report_fault : goal.returns-in_err-report_fault
returns-in_err-report_fault g c = λ es kept.
    let here = rw (← c.file-item.is) at (kept c.loop-file.file-index c.file-item.result c.loop-file-test.true) in
    let broke = rw (c.deref.ensures.value, c.end.ensures) at c.in_err-report_fault.ensures in
    messages_stop _ c.args.files.now (c.loop-file.invariant es kept) c.loop-file-test.true c.file-item.is here c.from_residual.result c.from_residual.ensures.0 broke

pub returns-then-options-has_selected : goal.returns-then-options-has_selected
returns-then-options-has_selected g c = λ es kept.
    let here = rw (← c.file-item.is) at (kept c.loop-file.file-index c.file-item.result c.loop-file-test.true) in
    let went = rw (c.deref.ensures.value, c.end.ensures) at c.in_ok-report_fault.ensures in
    messages_last _ c.args.files.now (c.loop-file.invariant es kept) c.loop-file-test.true c.file-item.is here (cc (c.has_selected.ensures, c.if-options-has_selected.true)) went

pub loop-file-preserved : goal.loop-file-preserved
loop-file-preserved g c = λ es kept.
    let here = rw (← c.file-item.is) at (kept c.loop-file.file-index c.file-item.result c.loop-file-test.true) in
    let went = rw (c.deref.ensures.value, c.end.ensures) at c.in_ok-report_fault.ensures in
    messages_on _ c.args.files.now (c.loop-file.invariant es kept) c.loop-file-test.true c.file-item.is here (cc (c.has_selected.ensures, c.if-options-has_selected.false)) went

pub returns : goal.returns
returns g c = λ es kept. messages_all _ c.args.files.now (c.loop-file.invariant es kept) (omega arith)
