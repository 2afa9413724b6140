use Rattle.re_syntax.{proofs.{Prelude.{◌∙◌, err_from_is_err_and}, lemmas.{BracketElements.{alone_stands, range_stands}, BracketFaultsReading.{fault_as, stray_before, range_before}}}, specs.BracketFaults.no_point}
use Rattle.re_syntax.proofs.bracket.read_point_or_range.Goals as goal

pub returns-in-None-clause-read : goal.returns-in-None-clause-read
returns-in-None-clause-read c =
    rw (c.only.ensures, c.in-None.ensures.none.0) (alone_stands c.requires.goes_on c.in_ok-first.ensures.read c.in-None.ensures.none.1)

pub returns-in_ok-last-in-Some-clause-read : goal.returns-in_ok-last-in-Some-clause-read
returns-in_ok-last-in-Some-clause-read c =
    let past = c.in-Some.ensures.found in
    rw c.range.ensures (range_stands c.requires.goes_on c.if-not-may_begin.ensures c.in_ok-first.ensures.read past.passes.passed past.not_last c.in_ok-last-in-Some.ensures.read c.in_ok-last-in-Some.ensures.ascends)

pub returns-in_err-first-clause-refused : goal.returns-in_err-first-clause-refused
returns-in_err-first-clause-refused c =
    let p = err_from_is_err_and c.from_residual.result c.from_residual.ensures.1 in
    rw (p.1, p.2) (fault_as c.in_err-first.ensures.refused (λ kind from f. no_point f))

pub returns-then-not-may_begin-clause-refused : goal.returns-then-not-may_begin-clause-refused
returns-then-not-may_begin-clause-refused c =
    let past = c.in-Some.ensures.found in
    stray_before c.args.opening c.args.place c.args.cursor.now c.skip_hyphen.new.cursor c.stray_hyphen.result (past.passes.same_text ∙ c.in_ok-first.ensures.same_text)
    c.in_ok-first.ensures.read c.if-not-may_begin.ensures.0 past.passes.passed past.not_last c.if-not-may_begin.ensures.1 c.stray_hyphen.ensures

pub returns-in_err-last-in-Some-clause-refused : goal.returns-in_err-last-in-Some-clause-refused
returns-in_err-last-in-Some-clause-refused c =
    let p = err_from_is_err_and c.from_residual-in_err-last-in-Some.result c.from_residual-in_err-last-in-Some.ensures.1 in
    let past = c.in-Some.ensures.found in
    rw (p.1, p.2) (range_before c.args.opening c.args.cursor.now c.skip_hyphen.new.cursor _ (past.passes.same_text ∙ c.in_ok-first.ensures.same_text)
    c.requires.goes_on c.if-not-may_begin.ensures c.in_ok-first.ensures.read past.passes.passed past.not_last c.in_err-last-in-Some.ensures.refused)
