use Rattle.re_runs.proofs.{Prelude.{arith, refl}, lemmas.RunLaws.seen_runs}
use Rattle.re_runs.proofs.set_finder.SetFinder.new.Goals as goal

pub returns-clause-some : goal.returns-clause-some
returns-clause-some c =
    let wide = rw c.deref.ensures.value at c.shortest-width.ensures in
    rw (seen_runs _ c.args.runs.items refl) (λ n d lt. omega (arith, c.in-Some.ensures.first.within, wide n d lt))
