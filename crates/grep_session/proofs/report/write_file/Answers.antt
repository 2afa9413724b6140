use Rattle.grep_session.proofs.{Prelude.{Ok, refl}, lemmas.{FileLemmas.{file_missing, file_written, file_stopped}, GroupsWritten.Reporting, Writing.{if_ok, writes_err}}}
use Rattle.grep_session.proofs.report.write_file.Goals as goal

pub returns-in_default : goal.returns-in_default
returns-in_default g c = λ es kept.
    let w = c.args.layout.now.request in
    let p : Reporting g.row.W.Denot = record { contents = g.W.CountedWrite.contents; failures = g.W.CountedWrite.failures; margin = c.args.layout.now.margin.now; es = es; options = w.options; many = w.many } in
    file_missing p _ _ (rw c.in_default.is) refl c.in_ok-write_summary.ensures

pub returns-in_err-write_summary : goal.returns-in_err-write_summary
returns-in_err-write_summary g c = λ es kept.
    let w = c.args.layout.now.request in
    let p : Reporting g.row.W.Denot = record { contents = g.W.CountedWrite.contents; failures = g.W.CountedWrite.failures; margin = c.args.layout.now.margin.now; es = es; options = w.options; many = w.many } in
    file_missing p _ _ (rw c.in_default.is) (if_ok _ _ c.from_residual.ensures.0)
    (writes_err g.W.CountedWrite.contents g.W.CountedWrite.failures c.args.layout.now.margin.now _ _ _ c.from_residual.result c.from_residual.ensures.0 c.in_err-write_summary.ensures)

pub returns-in_err-now : goal.returns-in_err-now
returns-in_err-now g c = λ es kept.
    file_stopped _ _ (rw c.in-Some.is) kept refl c.from_residual-in_err-now.ensures.0 (c.in_err-now.ensures es)

pub returns : goal.returns
returns g c = λ es kept.
    let w = c.args.layout.now.request in
    let p : Reporting g.row.W.Denot = record { contents = g.W.CountedWrite.contents; failures = g.W.CountedWrite.failures; margin = c.args.layout.now.margin.now; es = es; options = w.options; many = w.many } in
    file_written p w.name.now (rw c.in-Some.is) kept (Ok c.in_ok-now.now) c.count_all-selected.ensures (c.in_ok-now.ensures es) refl c.in_ok-write_summary-2.ensures

pub returns-in_err-write_summary-2 : goal.returns-in_err-write_summary-2
returns-in_err-write_summary-2 g c = λ es kept.
    let w = c.args.layout.now.request in
    let p : Reporting g.row.W.Denot = record { contents = g.W.CountedWrite.contents; failures = g.W.CountedWrite.failures; margin = c.args.layout.now.margin.now; es = es; options = w.options; many = w.many } in
    file_written p w.name.now (rw c.in-Some.is) kept c.from_residual-in_err-write_summary-2.result c.count_all-selected.ensures (c.in_ok-now.ensures es) (if_ok _ c.from_residual-in_err-write_summary-2.result c.from_residual-in_err-write_summary-2.ensures.0)
    (writes_err g.W.CountedWrite.contents g.W.CountedWrite.failures c.args.layout.now.margin.now _ _ _ c.from_residual-in_err-write_summary-2.result c.from_residual-in_err-write_summary-2.ensures.0 c.in_err-write_summary-2.ensures)
