use Rattle.re_ends.proofs.{Prelude.{arith, expression_of, part_of, positions, is_begin, is_end, Has}, lemmas.{GroupLaws.first_alike, KeptLaws.row_is}}
use Rattle.re_ends.proofs.lemmas.TableLaws as laws
use Rattle.re_ends.proofs.pass.Pass.mark.Goals as goal

pub first_in-first-requires : goal.first_in-first-requires
first_in-first-requires c =
    let e = expression_of c.args.asked.now.automaton.now in
    let at = c.requires.at.1 in
    let end = is_end c.args.asked.now.line.now c.args.at.place in
    record { row = (positions e, omega (arith, c.requires.at.0.groups.few), rw (c.row.ensures end at.groups at.row) (row_is c.requires.at.0.steps at.row), omega (arith, c.beginning-beginning.ensures.0)) }

pub returns : goal.returns
returns c = record {
  added = λ end old after.
      let e = expression_of c.args.asked.now.automaton.now in
      let at = c.requires.at.1 in
      let same = c.row.ensures (is_end c.args.asked.now.line.now c.args.at.place) at.groups at.row in
      laws.place_marked e at.stands
      (first_alike (Has c.beginning-beginning.result.now) ((part_of e 0).first (is_begin c.args.at.place)) at.groups c.beginning-beginning.ensures.1 (rw same at c.first_in-first.ensures))
      c.args.stop end old c.args.ends.now c.put_end.new.ends c.requires.stop (omega (arith, c.requires.room, c.requires.stop)) c.put_end.ensures after;
}
