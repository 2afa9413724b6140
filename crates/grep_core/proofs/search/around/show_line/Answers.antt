use Rattle.grep_core.proofs.lemmas.{WaitingRows.breaks_shown, WrittenLemmas.TakesFront-written}
use Rattle.grep_core.proofs.search.around.show_line.Goals as goal

pub returns-in_err-write_shown : goal.returns-in_err-write_shown
returns-in_err-write_shown g c =
    let w = c.args.request.now in
    let stopped = rw c.step-at.ensures.shown at c.in_err-write_shown.ensures in
    breaks_shown _ _ _ _ _ _ _ _ _ _ _ _ _ c.from_residual.ensures.1
    (record { wrote = TakesFront-written _ stopped; counted = stopped.counted })
