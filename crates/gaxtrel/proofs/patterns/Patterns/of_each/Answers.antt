use Rattle.gaxtrel.proofs.{Prelude.{refl, expressions_of}, ServedLemmas.serves_itself}
use Rattle.gaxtrel.proofs.patterns.Patterns.of_each.Goals as goal

pub invariant_of-result : goal.invariant_of-result
invariant_of-result c = (rw c.reading-reading.ensures.whole at c.in-Ok.ensures.made.wholes, c.in-Ok.ensures.rooms)

pub returns-clause-made : goal.returns-clause-made
returns-clause-made c =
    let made = c.in-Ok.ensures.made in
    let es = expressions_of c.in-Ok.matchers.items in
    record {
      es = es;
      meant = rw c.reading-reading.ensures.fold at made.meant;
      readable = rw c.reading-reading.ensures.fold at made.readable;
      is_apart = refl;
      is_limited = refl;
      serves = serves_itself _ _ _ refl;
    }
