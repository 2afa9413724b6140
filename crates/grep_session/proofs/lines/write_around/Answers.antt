use Rattle.{grep_session.proofs.{Prelude.{List, [], ◌∷◌, if◌then◌else◌, Text, group_separator, row_by}, lemmas.Writing.{stops_before, writes_after, writes_err}}, grep_core.proofs.lemmas.WrittenLemmas.writes_one_line}
use Rattle.grep_session.proofs.lines.write_around.Goals as goal

pub returns-in_err-write_separator : goal.returns-in_err-write_separator
returns-in_err-write_separator g c =
    let w = c.args.layout.now.request in
    let separator : List Text = if c.args.separated then group_separator ∷ [] else [] in
    let row = row_by w.options w.many w.name.now c.args.found c.args.number c.args.text.now in
    writes_err g.W.CountedWrite.contents g.W.CountedWrite.failures c.args.layout.now.margin.now _ _ _ c.from_residual.result c.from_residual.ensures.0
    (stops_before g.W.CountedWrite.contents g.W.CountedWrite.failures c.args.layout.now.margin.now c.args.out.now c.write_separator.new.out separator (row ∷ []) c.in_err-write_separator.ensures)

pub returns : goal.returns
returns g c =
    let w = c.args.layout.now.request in
    let separator : List Text = if c.args.separated then group_separator ∷ [] else [] in
    let row = row_by w.options w.many w.name.now c.args.found c.args.number c.args.text.now in
    writes_after g.W.CountedWrite.contents g.W.CountedWrite.failures c.args.layout.now.margin.now c.args.out.now c.write_separator.new.out c.write_shown.new.out separator (row ∷ []) c.write_shown.result c.in_ok-write_separator.ensures
    (writes_one_line g.W.CountedWrite.contents g.W.CountedWrite.failures c.write_separator.new.out c.write_shown.new.out c.args.layout.now.margin.now row c.write_shown.result c.write_shown.ensures)
