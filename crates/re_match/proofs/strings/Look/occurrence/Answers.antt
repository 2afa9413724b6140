use Rattle.re_match.proofs.{Prelude.{inr, None, arith, take_rest}, lemmas.OneText.{no_part, first_part}}
use Rattle.re_match.proofs.strings.Look.occurrence.Goals as goal

pub returns-in-Many-clause-reported : goal.returns-in-Many-clause-reported
returns-in-Many-clause-reported c = rw c.in-Many.is (rw c.deref.ensures at c.occurrence.ensures.reported)

pub returns-in_err-start-clause-reported : goal.returns-in_err-start-clause-reported
returns-in_err-start-clause-reported c = rw (c.from_residual.ensures, c.in-One.is) (no_part c.in-One.finder c.args.line.now c.args.from (rw take_rest at c.in_err-start.ensures.found))

pub returns-in_err-start-clause-looked : goal.returns-in_err-start-clause-looked
returns-in_err-start-clause-looked c = rw c.in-One.is (inr (None, rw take_rest at c.in_err-start.ensures.found, rw take_rest at c.in_err-start.ensures.counted))

pub returns-clause-reported : goal.returns-clause-reported
returns-clause-reported c = rw (c.needle-length.ensures, c.in-One.is) (first_part _ _ _ _ (rw (← c.needle-length.ensures) (omega arith)) (rw take_rest at c.in_ok-start.ensures.found))
