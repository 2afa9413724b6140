use Rattle.{grep_utility.proofs.{Prelude.{[], ◌∷◌, ◌++◌, err_from_is_err_and, decimal, newline, output_line, kind_name}, lemmas.ReportingLemmas.line_of_tokens}, grep_core.proofs.lemmas.RowLemmas.{stops_early, writes_last}}
use Rattle.grep_utility.proofs.refusal.write_pattern_refused.Goals as goal

pub returns-in_err-write_number_and_kind : goal.returns-in_err-write_number_and_kind
returns-in_err-write_number_and_kind g c =
    let p = err_from_is_err_and c.from_residual.result c.from_residual.ensures.1 in
    let begun = rw c.kind_name.ensures at c.in_err-write_number_and_kind.ensures in
    let whole = line_of_tokens (c.args.front.now ++ decimal c.args.number) c.args.before_kind.now (kind_name c.args.fault.kind) c.args.before_place.now (decimal c.args.fault.at) (newline ∷ []) in
    rw p.1 (rw whole at
    (stops_early g.W.CountedWrite.contents g.W.CountedWrite.failures c.args.out.now c.write_number_and_kind.new.out ((c.args.front.now ++ decimal c.args.number) ++ (c.args.before_kind.now ++ kind_name c.args.fault.kind)) (output_line c.args.before_place.now (decimal c.args.fault.at)) begun))

pub returns : goal.returns
returns g c =
    let begun = rw c.kind_name.ensures at c.in_ok-write_number_and_kind.ensures in
    let whole = line_of_tokens (c.args.front.now ++ decimal c.args.number) c.args.before_kind.now (kind_name c.args.fault.kind) c.args.before_place.now (decimal c.args.fault.at) (newline ∷ []) in
    rw whole at
    (writes_last g.W.CountedWrite.contents g.W.CountedWrite.failures c.args.out.now c.write_number_and_kind.new.out c.write_count.new.out ((c.args.front.now ++ decimal c.args.number) ++ (c.args.before_kind.now ++ kind_name c.args.fault.kind)) (output_line c.args.before_place.now (decimal c.args.fault.at)) c.write_count.result begun c.write_count.ensures)
