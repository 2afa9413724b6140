use Rattle.grep_session.proofs.{Prelude.{true, slice_range, Span, row_by}, lemmas.Writing.{row_on, row_stops, writes_err}}
use Rattle.grep_session.proofs.lines.write_parts.Goals as goal

pub returns-in_err-write_part : goal.returns-in_err-write_part
returns-in_err-write_part g c =
    let w = c.args.layout.now.request in
    let f = λ (span : Span). row_by w.options w.many w.name.now true c.args.number (slice_range c.args.text.now span.start span.end) in
    writes_err g.W.CountedWrite.contents g.W.CountedWrite.failures c.args.layout.now.margin.now _ _ _ c.from_residual.result c.from_residual.ensures.0
    (row_stops g.W.CountedWrite.contents g.W.CountedWrite.failures _ f _ _ _ _ c.loop-part-test.true
    _ _ _ c.loop-part.invariant c.in_err-write_part.ensures)

pub loop-part-preserved : goal.loop-part-preserved
loop-part-preserved g c =
    let w = c.args.layout.now.request in
    let f = λ (span : Span). row_by w.options w.many w.name.now true c.args.number (slice_range c.args.text.now span.start span.end) in
    row_on g.W.CountedWrite.contents g.W.CountedWrite.failures _ f _ _ _ _ c.loop-part-test.true
    _ _ _ c.loop-part.invariant c.in_ok-write_part.ensures
