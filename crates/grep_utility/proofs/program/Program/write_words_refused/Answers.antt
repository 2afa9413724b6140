use Rattle.{grep_utility.proofs.Prelude.{[], ◌∷◌, append-nil, err_from_is_err_and, written, output_line}, grep_core.proofs.lemmas.RowLemmas.{stops_early, writes_last}}
use Rattle.grep_utility.proofs.program.Program.write_words_refused.Goals as goal

pub returns-in_err-write_line : goal.returns-in_err-write_line
returns-in_err-write_line g c =
    let p = err_from_is_err_and c.from_residual.result c.from_residual.ensures.1 in
    rw p.1 (stops_early g.M.CountedWrite.contents g.M.CountedWrite.failures c.args.messages.now c.write_line.new.out
    (output_line [] c.args.self.now.words_refused.now) (written [] (c.args.self.now.usage.now ∷ [])) c.in_err-write_line.ensures)

pub returns : goal.returns
returns g c =
    writes_last g.M.CountedWrite.contents g.M.CountedWrite.failures c.args.messages.now c.write_line.new.out c.write_line-2.new.out
    (output_line [] c.args.self.now.words_refused.now) (written [] (c.args.self.now.usage.now ∷ [])) c.write_line-2.result c.in_ok-write_line.ensures
    (rw (append-nil (output_line [] c.args.self.now.usage.now)) c.write_line-2.ensures)
