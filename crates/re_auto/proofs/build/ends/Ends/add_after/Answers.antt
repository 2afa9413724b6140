use Rattle.re_auto.proofs.{Prelude.arith, lemmas.PartLemmas.says_empty}
use Rattle.re_auto.proofs.build.ends.Ends.add_after.Goals as goal

pub returns-clause-shows : goal.returns-clause-shows
returns-clause-shows c = record {
  first_at_begin = (omega arith, c.add_if.ensures.added);
  first_inside = (omega arith, c.add_if-2.ensures.added);
  last_at_end = (omega arith, c.add_if-3.ensures.added);
  last_inside = (omega arith, c.add_if-4.ensures.added);
  empty = says_empty c.and-self.ensures;
}
