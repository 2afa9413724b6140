use Rattle.re_syntax.proofs.{Prelude.err_from_is_err_and, lemmas.ShapeLaws.{reaches_on, fault_met, deep_met}}
use Rattle.re_syntax.proofs.reading.next_token.Goals as goal

pub returns-in_err-token-clause-refused : goal.returns-in_err-token-clause-refused
returns-in_err-token-clause-refused c =
    let q = err_from_is_err_and c.from_residual.result c.from_residual.ensures.1 in
    rw (q.1, q.2) (λ done r. fault_met r _ c.len-in_group.ensures.value c.in_err-token.ensures.refused)

pub returns-in_err-take-clause-refused : goal.returns-in_err-take-clause-refused
returns-in_err-take-clause-refused c =
    let q = err_from_is_err_and c.from_residual-in_err-take.result c.from_residual-in_err-take.ensures.1 in
    rw (q.1, q.2) (λ done r. deep_met r _ c.len-in_group.ensures.value c.in_ok-token.ensures.read c.in_err-take.ensures.refused)

pub returns-clause-read : goal.returns-clause-read
returns-clause-read c _ r = reaches_on r _ c.len-in_group.ensures.value c.in_ok-token.ensures.read c.in_ok-take.ensures.read
