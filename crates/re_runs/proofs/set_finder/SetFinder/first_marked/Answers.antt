use Rattle.{re_runs.proofs.Prelude.{◌+◌, refl, ◌∙◌, arith, false≢true, members_of, RunStandsAt}, memchr.proofs.lemmas.ScanLemmas.{unmarked, Nowhere-unset}}
use Rattle.re_runs.proofs.set_finder.SetFinder.first_marked.Goals as goal

pub returns : goal.returns
returns c = Nowhere-unset c.marks.invariant c.marks-test.false

pub returns-then-stands_at : goal.returns-then-stands_at
returns-then-stands_at c =
    let within = c.marks.invariant.within _ c.lowest-bit.ensures.set in (
      record { low = omega arith; high = within; before = λ k low high. unmarked c.marks.invariant k low (omega arith) (c.lowest-bit.ensures.below _ (omega arith)) },
      c.if-stands_at.ensures.0 refl,
    )

pub marks-preserved : goal.marks-preserved
marks-preserved c =
    let none : ¬ RunStandsAt c.args.line.now (members_of c.args.self.now) (c.args.start + c.lowest-bit.result) = λ o. false≢true (c.if-stands_at.ensures.1 o) in
    record { each = λ k lt o. c.without-left.ensures.kept k (omega arith) (λ is. none (rw is at o)) ∙ c.marks.invariant.each k lt o; within = λ k h. c.marks.invariant.within k (c.without-left.ensures.no_more k h) }
