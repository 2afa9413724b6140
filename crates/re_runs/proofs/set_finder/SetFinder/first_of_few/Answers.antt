use Rattle.re_runs.proofs.{Prelude.{ℕ, ◌<◌, false, slice_index, arith, rules, refl, false≢true, members_of, RunStandsAt}, lemmas.RunLaws.{nowhere_at, found_pass, finds_none}, set_finder.SetFinder.first_of_few.Goals.{else-bits-ne0-via-then-bits-ne0+else-stands_at, else-bits-ne0-via-else-bits-ne0}}
use Rattle.re_runs.proofs.set_finder.SetFinder.first_of_few.Goals as goal

pub places-preserved : goal.places-preserved
places-preserved c = nowhere_at (RunStandsAt c.args.line.now (members_of c.args.self.now)) _ c.places.invariant absent
  where
    small : (x : ℕ) → slice_index c.args.line.now x < 256
    small = search rules

    absent : RunStandsAt c.args.line.now (members_of c.args.self.now) c.places.place → ⊥
    absent o = elim c.else-bits-ne0.branch [
      | else-bits-ne0-via-then-bits-ne0+else-stands_at w ↦ false≢true (w.if-stands_at.ensures.1 o)
      | else-bits-ne0-via-else-bits-ne0 w ↦
          search (rules, (found_pass c.self.inside.runs.items false c.self.view_is c.self.invariant.wide c.self.invariant.first (λ yes. absurd (false≢true yes)) c.args.line.now small c.places.place o).first.0)
    ]

pub returns-then-stands_at : goal.returns-then-stands_at
returns-then-stands_at c = (record { low = omega arith; high = omega arith; before = c.places.invariant }, c.if-stands_at.ensures.0 refl)

pub returns-then-line-probe : goal.returns-then-line-probe
returns-then-line-probe c = finds_none _ _ _ c.self.view_is c.self.invariant.wide _ 0 (omega arith) (λ k low lt o. omega arith)

pub returns : goal.returns
returns c = finds_none _ _ _ c.self.view_is c.self.invariant.wide _ _ (omega arith) c.places.invariant
