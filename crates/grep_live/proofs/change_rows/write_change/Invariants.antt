use Rattle.grep_live.proofs.{Prelude.{drop, length, file_at}, lemmas.ChangesLemmas.{StretchesLeft, Changes}}
use Rattle.grep_live.proofs.change_rows.write_change.Given as goal

-- the changes of the first stretches were written
abbrev pub invariant-loop-stretch : goal.invariant-loop-stretch
invariant-loop-stretch g l = record {
  fits : StretchesLeft (length (file_at l.session.inputs.files l.k).lines) l.rest.from l.rest.to (drop l.stretch-index l.mark.stretches);
  changes : Changes l.form.has_text l.session.inputs l.k g.W.CountedWrite.contents g.W.CountedWrite.failures l.form.margin.now l.mark l.fn.out l.out l.rest.from (drop l.stretch-index l.mark.stretches);
}
