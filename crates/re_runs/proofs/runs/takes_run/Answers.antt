use Rattle.re_runs.proofs.{Prelude.{rules, map, refl, sym, ◌∙◌, arith, false≢true, length-map, members}, lemmas.RunLaws.takes_more}
use Rattle.re_runs.proofs.runs.takes_run.Goals as goal

pub sets-preserved : goal.sets-preserved
sets-preserved c = takes_more (map members c.args.run.now) c.args.line.now c.args.place c.sets.j (sym c.takes.ensures ∙ search rules) c.sets.invariant

pub returns-then-not-takes : goal.returns-then-not-takes
returns-then-not-takes c = (λ t. absurd (false≢true t), λ is. absurd (false≢true (sym c.if-not-takes.true ∙ c.takes.ensures ∙ is.takes c.sets.j (omega (arith, length-map c.args.run.now members)))))

pub returns : goal.returns
returns c = (λ _. record { fits = omega (arith, length-map c.args.run.now members); takes = λ j below. c.sets.invariant j (omega (arith, length-map c.args.run.now members)) }, λ _. refl)
