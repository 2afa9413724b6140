use Rattle.{grep_utility.proofs.Prelude.{encode_utf8, ◌∙◌, err_from_is_err_and, output_line}, grep_core.proofs.lemmas.RowLemmas.{stops_early, writes_last}}
use Rattle.grep_utility.proofs.usage.write_option.Goals as goal

pub returns-in_err-push_all : goal.returns-in_err-push_all
returns-in_err-push_all g c =
    let p = err_from_is_err_and c.from_residual.result c.from_residual.ensures.1 in
    rw p.1 (stops_early g.M.CountedWrite.contents g.M.CountedWrite.failures c.args.messages.now c.push_all.new.out c.args.before.now (output_line (encode_utf8 c.args.letter) c.args.after.now) c.in_err-push_all.ensures)

pub returns : goal.returns
returns g c =
    writes_last g.M.CountedWrite.contents g.M.CountedWrite.failures c.args.messages.now c.push_all.new.out c.write_line_after.new.out c.args.before.now (output_line (encode_utf8 c.args.letter) c.args.after.now) c.write_line_after.result c.in_ok-push_all.ensures
    (rw (c.as_bytes-letter.ensures.value ∙ c.encode_utf8.ensures.value) at c.write_line_after.ensures)
