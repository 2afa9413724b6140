use Rattle.{grep_live.proofs.{Prelude.{◌∷◌, [], decimal, spaced}, lemmas.Pushing.{each_none, each_on, each_stops, each_all}}, grep_session.proofs.lemmas.Writing.writes_err}
use Rattle.grep_live.proofs.rows.write_numbers.Goals as goal

pub loop-number-init : goal.loop-number-init
loop-number-init g c = each_none g.W.CountedWrite.contents g.W.CountedWrite.failures (λ number. 32 ∷ decimal number) c.args.numbers.now _

pub loop-number-preserved : goal.loop-number-preserved
loop-number-preserved g c =
    each_on g.W.CountedWrite.contents g.W.CountedWrite.failures (λ number. 32 ∷ decimal number) _ _ _ _ _ 0 c.loop-number-test.true c.loop-number.invariant c.in_ok-write_number.ensures

pub returns-in_err-write_number : goal.returns-in_err-write_number
returns-in_err-write_number g c =
    writes_err g.W.CountedWrite.contents g.W.CountedWrite.failures [] _ _ (spaced c.args.numbers.now) c.from_residual.result c.from_residual.ensures.0
    (each_stops g.W.CountedWrite.contents g.W.CountedWrite.failures (λ number. 32 ∷ decimal number) _ _ _ _ _ 0 c.loop-number-test.true c.loop-number.invariant c.in_err-write_number.ensures)

pub returns : goal.returns
returns g c = each_all g.W.CountedWrite.contents g.W.CountedWrite.failures (λ number. 32 ∷ decimal number) _ _ _ _ c.loop-number-test.false c.loop-number.invariant
