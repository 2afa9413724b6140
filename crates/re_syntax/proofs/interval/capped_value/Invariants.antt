use Rattle.re_syntax.proofs.Prelude.{◌≡◌, take, value, capped}
use Rattle.re_syntax.proofs.interval.capped_value.Given as goal

abbrev pub invariant-loop-digit : goal.invariant-loop-digit
invariant-loop-digit l = l.value ≡ capped (value (take l.digit-index l.digits))
