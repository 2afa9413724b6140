use Rattle.re_search.proofs.{Prelude.{inl, inr, err_from_is_err_and}, lemmas.ReadingLaws.{read_meant, refused_unreadable}}
use Rattle.re_search.proofs.matcher.Matcher.new.Goals as goal

pub returns-in-Ok-clause-meant : goal.returns-in-Ok-clause-meant
returns-in-Ok-clause-meant c = (read_meant c.args.syntax c.args.fold c.args.text.now _ _ c.in_ok-pattern.ensures.read c.in-Ok.ensures.expression).0

pub returns-in-Ok-clause-small : goal.returns-in-Ok-clause-small
returns-in-Ok-clause-small c = (read_meant c.args.syntax c.args.fold c.args.text.now _ _ c.in_ok-pattern.ensures.read c.in-Ok.ensures.expression).1

pub returns-in_err-pattern-clause-unreadable : goal.returns-in_err-pattern-clause-unreadable
returns-in_err-pattern-clause-unreadable c =
    let q = err_from_is_err_and c.from_residual.result c.from_residual.ensures.1 in
    rw (q.1, q.2) (elim c.in_err-pattern.ensures.refused [ inl memory ↦ inl memory | inr refused ↦ inr (refused_unreadable c.args.syntax c.args.fold c.args.text.now _ refused) ])
