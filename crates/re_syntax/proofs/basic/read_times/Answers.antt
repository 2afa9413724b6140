use Rattle.re_syntax.{proofs.Prelude.err_from_is_err_and, specs.BasicTokens.needs_item}
use Rattle.re_syntax.proofs.basic.read_times.Goals as goal

pub returns-then-needs_item-clause-refused : goal.returns-then-needs_item-clause-refused
returns-then-needs_item-clause-refused c g = record { within = c.requires; is_fault = needs_item c.if-not-follows_item.ensures c.if-needs_item.ensures }

pub returns-in_err-found-clause-refused : goal.returns-in_err-found-clause-refused
returns-in_err-found-clause-refused c =
    let q = err_from_is_err_and c.from_residual.result c.from_residual.ensures.1 in
    rw (q.1, q.2, c.if-not-follows_item.ensures) c.in_err-found.ensures.refused
