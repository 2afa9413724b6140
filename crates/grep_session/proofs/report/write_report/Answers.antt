use Rattle.grep_session.proofs.{Prelude.{arith, refl}, lemmas.{KeptLaws.kept_status, FileLemmas.{files_none, files_on, files_all, files_stop}}}
use Rattle.grep_session.proofs.report.write_report.Goals as goal

pub loop-file-init : goal.loop-file-init
loop-file-init g c = λ es kept. files_none _ c.args.files.now c.args.out.now

pub returns-in_err-some : goal.returns-in_err-some
returns-in_err-some g c = λ es kept.
    let here = rw (← c.file-item.is) at (kept c.loop-file.file-index c.file-item.result c.loop-file-test.true) in
    let broke = rw c.deref.ensures.value at c.in_err-some.ensures in
    files_stop _ c.args.files.now (c.loop-file.invariant es kept) refl c.from_residual.result c.loop-file-test.true c.file-item.is refl (broke es here) c.from_residual.ensures.0

pub loop-file-preserved : goal.loop-file-preserved
loop-file-preserved g c = λ es kept.
    let here = rw (← c.file-item.is) at (kept c.loop-file.file-index c.file-item.result c.loop-file-test.true) in
    let went = rw c.deref.ensures.value at c.in_ok-some.ensures in
    files_on _ _ (c.loop-file.invariant es kept) c.loop-file-test.true c.file-item.is (went es here)

pub returns : goal.returns
returns g c = λ es kept.
    files_all _ c.args.files.now (c.loop-file.invariant es kept) refl (omega arith) (rw c.status.ensures (kept_status es c.args.options.now c.args.files.now kept))
