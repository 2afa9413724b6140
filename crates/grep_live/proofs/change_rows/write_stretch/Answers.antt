use Rattle.{grep_live.proofs.{Prelude.{◌-◌, sym}, lemmas.ChangesLemmas.{rows_idle, rows_busy}}, grep_core.proofs.lemmas.RowLemmas.goes_nowhere}
use Rattle.grep_live.proofs.change_rows.write_stretch.Goals as goal

pub returns-then-is_idle : goal.returns-then-is_idle
returns-then-is_idle g c = λ es meant hits are.
    let none = rows_idle c.args.form.has_text c.args.stretch.k c.args.stretch.from c.args.removed (c.args.stretch.to - c.args.stretch.from) hits (sym c.if-is_idle.ensures) in
    rw none (goes_nowhere g.W.CountedWrite.contents g.W.CountedWrite.failures c.args.out.now)

pub returns : goal.returns
returns g c = λ es meant hits are.
    let some = rows_busy c.args.form.has_text c.args.stretch.k c.args.stretch.from c.args.removed (c.args.stretch.to - c.args.stretch.from) hits (sym c.if-is_idle.ensures) in
    rw some (c.write_rows.ensures es meant hits are)
