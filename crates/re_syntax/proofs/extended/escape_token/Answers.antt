use Rattle.re_syntax.{proofs.{Prelude.err_from_is_err_and, lemmas.{BracketFaultsReading.fault_as, TokenReading.escape_stands}}, specs.ExtendedTokens.{in_escape, escaped}}
use Rattle.re_syntax.proofs.extended.escape_token.Goals as goal

pub returns-in_err-byte-clause-refused : goal.returns-in_err-byte-clause-refused
returns-in_err-byte-clause-refused c =
    let q = err_from_is_err_and c.from_residual.result c.from_residual.ensures.1 in
    rw (q.1, q.2) (λ p. fault_as c.in_err-byte.ensures.refused (λ kind from f. in_escape f))

pub returns-clause-read : goal.returns-clause-read
returns-clause-read c g p = escape_stands _ c.in_ok-byte.ensures.read (rw c.only.ensures) (escaped _ c.in_ok-byte.ensures.read.allowed)
