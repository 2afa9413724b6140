use Rattle.re_match.proofs.lemmas.OneText.{finds-decides}
use Rattle.re_match.proofs.strings.Look.stands_in.Goals as goal

pub returns-in-One-clause-reported : goal.returns-in-One-clause-reported
returns-in-One-clause-reported c = rw (c.in-One.is, c.is_some.ensures) (finds-decides _ _ _ c.find_text.ensures.found)

pub returns-in-Many-clause-looked : goal.returns-in-Many-clause-looked
returns-in-Many-clause-looked c = rw c.in-Many.is (rw c.deref.ensures at c.stands_in.ensures.looked)
