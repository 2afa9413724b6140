use Rattle.re_syntax.proofs.{Prelude.{◌+◌, ◌-◌, ◌*◌, min, take, get_or, sym, ap, ◌∙◌, value}, lemmas.DigitsLaws.{value_after-take, capped-step}}
use Rattle.re_syntax.proofs.interval.capped_value.Goals as goal

pub loop-digit-preserved : goal.loop-digit-preserved
loop-digit-preserved c =
    let v = c.loop-digit.value in
    let w = value (take c.loop-digit.digit-index c.args.digits.now) in
    let d = get_or c.args.digits.now c.loop-digit.digit-index 0 - 48 in
    c.min-value.ensures ∙ ap (λ r. min (10 * v + r) 256) c.from.ensures ∙ capped-step w d c.loop-digit.invariant
    ∙ sym (rw (value_after-take 0 c.args.digits.now c.loop-digit.digit-index c.loop-digit-test.true))
