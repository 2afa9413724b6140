use Rattle.re_ends.proofs.Prelude.{arith, suc, max, ◌≡◌, ◌-◌}
use Rattle.re_ends.proofs.pass.Pass.onward.Goals as goal

pub returns-then-walked-eq0-clause-added : goal.returns-then-walked-eq0-clause-added
returns-then-walked-eq0-clause-added c = λ end old begun.
    let one : max c.walk_rows-walked.result.place 1 ≡ suc c.walk_rows-walked.result.place = omega (arith, c.if-walked-eq0.true) in c.mark.ensures.added end old (rw one at c.walk_rows-walked.ensures.added end old begun)

pub returns-then-walked-stop-clause-added : goal.returns-then-walked-stop-clause-added
returns-then-walked-stop-clause-added c = let same : max c.walk_rows-walked.result.place 1 ≡ c.walk_rows-walked.result.place = omega (arith, c.if-walked-eq0.false) in rw same at c.walk_rows-walked.ensures.added

pub returns-clause-added : goal.returns-clause-added
returns-clause-added c = λ end old begun.
    let one : max c.walk_rows-walked.result.place 1 ≡ suc (c.walk_rows-walked.result.place - 1) = omega (arith, c.if-walked-eq0.false) in c.mark-2.ensures.added end old (rw one at c.walk_rows-walked.ensures.added end old begun)
