use Rattle.{grep_live.proofs.{Prelude.{[], ◌∷◌, ◌++◌, map, newline, span_places, spaced, parts_text, line_text}, lemmas.Pushing.row_grouped}, grep_core.proofs.lemmas.RowLemmas.{stops_early, writes_last}, grep_session.proofs.lemmas.Writing.writes_err}
use Rattle.grep_live.proofs.rows.write_hit_row.Goals as goal

pub returns-in_err-write_head : goal.returns-in_err-write_head
returns-in_err-write_head g c =
    let margin = c.args.form.margin.now in
    let word = c.args.word.now in
    let numbers = spaced c.args.numbers.now in
    let parts = parts_text (map span_places c.args.hit.parts.now) in
    let end = line_text c.args.form.has_text c.args.hit.text.now in
    let rest = 32 ∷ (parts ++ (end ++ newline ∷ [])) in
    writes_err g.W.CountedWrite.contents g.W.CountedWrite.failures [] _ _ _ c.from_residual.result c.from_residual.ensures.0
    (rw (row_grouped _ _ _ _ _) at
    (stops_early g.W.CountedWrite.contents g.W.CountedWrite.failures c.args.out.now c.write_head.new.out (margin ++ (word ++ numbers)) rest c.in_err-write_head.ensures))

pub returns : goal.returns
returns g c =
    let margin = c.args.form.margin.now in
    let word = c.args.word.now in
    let numbers = spaced c.args.numbers.now in
    let parts = parts_text (map span_places c.args.hit.parts.now) in
    let end = line_text c.args.form.has_text c.args.hit.text.now in
    let rest = 32 ∷ (parts ++ (end ++ newline ∷ [])) in
    rw (row_grouped _ _ _ _ _) at
    (writes_last g.W.CountedWrite.contents g.W.CountedWrite.failures c.args.out.now c.write_head.new.out c.write_rest.new.out (margin ++ (word ++ numbers)) rest c.write_rest.result c.in_ok-write_head.ensures c.write_rest.ensures)
