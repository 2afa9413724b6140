use Rattle.grep_session.proofs.{Prelude.{drop, part_rows}, lemmas.Writing.WrittenUpTo}
use Rattle.grep_session.proofs.lines.write_parts.Given as goal

-- the parts up to here were written
abbrev pub invariant-loop-part : goal.invariant-loop-part
invariant-loop-part g l =
    let rows = part_rows l.layout.request.options l.layout.request.many l.layout.request.name.now l.number l.text in
    WrittenUpTo g.W.CountedWrite.contents g.W.CountedWrite.failures l.layout.margin.now l.fn.out l.out (rows l.spans) (rows (drop l.part-index l.spans))
