use Rattle.re_syntax.{proofs.{Prelude.{arith, codes, drop, rules, Begins, err_from_is_err_and}, lemmas.{BasicTokenReading.escape_allowed, BracketFaultsReading.fault_as, TokenReading.{bytes_stand, escape_stands}}}, specs.BasicTokens.{opens, closes, parts, escaped, in_escape, unopened}}
use Rattle.re_syntax.proofs.basic.escape_token.Goals as goal

pub returns-in-Some-clause-read : goal.returns-in-Some-clause-read
returns-in-Some-clause-read c p = bytes_stand _ (omega arith) c.in-Some.ensures opens

pub returns-in-Some-after-clause-read : goal.returns-in-Some-after-clause-read
returns-in-Some-after-clause-read c p = bytes_stand _ (omega arith) c.in-Some-after.ensures parts

pub returns-then-in_group-clause-read : goal.returns-then-in_group-clause-read
returns-then-in_group-clause-read c p = bytes_stand _ (omega arith) c.in-Some-after-2.ensures (closes c.if-in_group.true)

pub returns-in-Some-after-2-clause-refused : goal.returns-in-Some-after-2-clause-refused
returns-in-Some-after-2-clause-refused c p = record { within = c.requires.within; is_fault = rw c.in-Some-after-2.ensures.front (unopened (λ h. cc (h, c.if-in_group.false))) }

pub returns-in_err-byte-clause-refused : goal.returns-in_err-byte-clause-refused
returns-in_err-byte-clause-refused c =
    let q = err_from_is_err_and c.from_residual.result c.from_residual.ensures.1 in
    rw (q.1, q.2) (λ p. fault_as c.in_err-byte.ensures.refused (λ kind from f. in_escape f))

pub returns-clause-read : goal.returns-clause-read
returns-clause-read c p =
    let no_group : ¬ Begins (codes "\\(") (drop c.args.at c.args.text.now) = search rules in
    let no_bar : ¬ Begins (codes "\\|") (drop c.args.at c.args.text.now) = search rules in
    let no_closing : ¬ Begins (codes "\\)") (drop c.args.at c.args.text.now) = search rules in
    let s = c.in_ok-byte.ensures.read in
    escape_stands _ s (rw c.only.ensures) (escaped _ (escape_allowed s no_group no_bar no_closing c.requires.no_need))
