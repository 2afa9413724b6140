use Rattle.gaxtrel.proofs.Prelude.{refl, false≢true}
use Rattle.gaxtrel.proofs.patterns.Patterns.of_lines.Goals as goal

pub invariant_of-result : goal.invariant_of-result
invariant_of-result c = (rw c.reading-reading.ensures.whole at c.in-Ok.ensures.ok.wholes, c.in-Ok.ensures.ok.rooms)

pub returns-clause-made : goal.returns-clause-made
returns-clause-made c =
    let serve = c.in-Ok.ensures.ok in
    record {
      es = serve.es;
      meant = rw c.reading-reading.ensures.fold at serve.meant;
      readable = rw c.reading-reading.ensures.fold at serve.readable;
      is_apart = refl;
      is_limited = refl;
      serves = record { same = serve.same; fewer = serve.fewer; whole = refl; each = λ no. absurd (false≢true no) };
    }
