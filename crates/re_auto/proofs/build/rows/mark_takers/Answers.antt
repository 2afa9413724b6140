use Rattle.re_auto.proofs.{Prelude.{arith, ◌∙◌, members}, lemmas.{BitLemmas.chained, RowLemmas.{row_within, marked, all_marked}}}
use Rattle.re_auto.proofs.build.rows.mark_takers.Goals as goal

pub loop-c-preserved : goal.loop-c-preserved
loop-c-preserved c = (
  tt,
  tt,
  c.insert_in_row.ensures.len ∙ c.loop-c.invariant.2,
  λ x q lt.
      let (held, left) = c.in-Some.ensures.steps in
      let room = row_within x 256 c.args.width lt in
      chained (marked _ _ _ x held left (c.insert_in_row.ensures.added x q (omega arith))) (c.loop-c.invariant.3 x q lt),
)

pub returns-clause-added : goal.returns-clause-added
returns-clause-added c = λ x q lt. all_marked (members c.loop-c.c-iterator) x c.in-None.ensures.steps (c.loop-c.invariant.3 x q lt)
