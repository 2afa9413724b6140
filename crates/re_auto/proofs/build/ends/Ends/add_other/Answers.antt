use Rattle.re_auto.proofs.{Prelude.arith, lemmas.PartLemmas.{says_empty, skipped}}
use Rattle.re_auto.proofs.build.ends.Ends.add_other.Goals as goal

pub returns-clause-shows : goal.returns-clause-shows
returns-clause-shows c = record {
  first_at_begin = (omega arith, λ q. skipped (c.add_set.ensures.added q));
  first_inside = (omega arith, λ q. skipped (c.add_set-2.ensures.added q));
  last_at_end = (omega arith, c.add_set-3.ensures.added);
  last_inside = (omega arith, c.add_set-4.ensures.added);
  empty = says_empty c.or-self.ensures;
}
