use Rattle.{grep_live.proofs.Prelude.{◌-◌, ◌^◌, [], ◌∷◌, length, min, total_row, page_rows, all_hits}, grep_session.proofs.lemmas.Writing.{writes_err, one_went, one_stopped, stops_before, writes_after}}
use Rattle.grep_live.proofs.page_rows.write_hits_page.Goals as goal

pub returns-in_err-write_number_row : goal.returns-in_err-write_number_row
returns-in_err-write_number_row g c =
    let margin = c.args.form.margin.now in
    λ es meant view are.
    let total = min (length (all_hits 0 view)) (2 ^ 64 - 1) in
    let stopped = rw (c.count_all-total.ensures es meant view are) at c.in_err-write_number_row.ensures in
    writes_err g.W.CountedWrite.contents g.W.CountedWrite.failures margin _ _ _ c.from_residual.result c.from_residual.ensures.0
    (stops_before g.W.CountedWrite.contents g.W.CountedWrite.failures margin c.args.out.now c.write_number_row.new.out (total_row total ∷ []) (page_rows c.args.form.has_text c.args.first c.args.count (all_hits 0 view))
    (one_stopped g.W.CountedWrite.contents g.W.CountedWrite.failures margin c.args.out.now c.write_number_row.new.out (total_row total) stopped))

pub returns : goal.returns
returns g c =
    let margin = c.args.form.margin.now in
    λ es meant view are.
    let total = min (length (all_hits 0 view)) (2 ^ 64 - 1) in
    let went = rw (c.count_all-total.ensures es meant view are) at c.in_ok-write_number_row.ensures in
    writes_after g.W.CountedWrite.contents g.W.CountedWrite.failures margin c.args.out.now c.write_number_row.new.out c.write_page.new.out (total_row total ∷ []) (page_rows c.args.form.has_text c.args.first c.args.count (all_hits 0 view)) c.write_page.result
    (one_went g.W.CountedWrite.contents g.W.CountedWrite.failures margin c.args.out.now c.write_number_row.new.out (total_row total) went) (c.write_page.ensures es meant view are)
