use Rattle.re_auto.proofs.{Prelude.rfl, lemmas.PartLemmas.{always, says_empty}}
use Rattle.re_auto.proofs.build.ends.Ends.be_optional.Goals as goal

pub returns-clause-shows : goal.returns-clause-shows
returns-clause-shows c = record {
  first_at_begin = (c.requires.first_at_begin, λ q. rfl);
  first_inside = (c.requires.first_inside, λ q. rfl);
  last_at_end = (c.requires.last_at_end, λ q. rfl);
  last_inside = (c.requires.last_inside, λ q. rfl);
  empty = says_empty (λ b z. always (c.anywhere-self.ensures b z));
}
