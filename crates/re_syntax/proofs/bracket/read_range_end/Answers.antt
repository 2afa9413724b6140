use Rattle.re_syntax.{proofs.{Prelude.{inl, inr, err_from_is_err_and}, lemmas.BracketFaultsReading.{bad_range_at, fault_as}}, specs.BracketFaults.{no_end, of_class, descends}}
use Rattle.re_syntax.proofs.bracket.read_range_end.Goals as goal

pub returns-then-skip-clause-refused : goal.returns-then-skip-clause-refused
returns-then-skip-clause-refused c =
    bad_range_at c.args.cursor.now c.requires.hyphen_before (of_class (inl (_, c.if-skip.ensures.skipped.passed)))

pub returns-then-skip-2-clause-refused : goal.returns-then-skip-2-clause-refused
returns-then-skip-2-clause-refused c =
    let past = rw c.if-skip.ensures.else_same at c.if-skip-2.ensures.skipped in
    bad_range_at c.args.cursor.now c.requires.hyphen_before (of_class (inr (_, past.passed)))

pub returns-in_err-last-clause-refused : goal.returns-in_err-last-clause-refused
returns-in_err-last-clause-refused c =
    let p = err_from_is_err_and c.from_residual.result c.from_residual.ensures.1 in
    let refused = rw (c.if-skip-2.ensures.else_same, c.if-skip.ensures.else_same) at c.in_err-last.ensures.refused in
    rw (p.1, p.2) (fault_as refused (λ kind from f. no_end f))

pub returns-then-last-first-clause-refused : goal.returns-then-last-first-clause-refused
returns-then-last-first-clause-refused c =
    let point = rw (c.if-skip-2.ensures.else_same, c.if-skip.ensures.else_same) at c.in_ok-last.ensures.read in
    bad_range_at c.args.cursor.now c.requires.hyphen_before (descends point c.if-last-first.true)
