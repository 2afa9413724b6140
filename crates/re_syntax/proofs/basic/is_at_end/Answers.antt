use Rattle.re_syntax.proofs.{Prelude.{drop, drop-length, IsAtEnd, of_text, of_group, of_branch}, lemmas.{BasicTokenReading.not_at_end, Places.{either_found, some_found, nothing_found}}}
use Rattle.re_syntax.proofs.basic.is_at_end.Goals as goal

pub returns-then-at-text : goal.returns-then-at-text
returns-then-at-text c = rw (c.if-at-text.true, drop-length c.args.text.now) of_text

pub returns-then-is_some : goal.returns-then-is_some
returns-then-is_some c =
    let (b, s) = some_found _ _ c.after.result c.is_some.ensures c.if-is_some.true c.after.ensures in rw s.front of_branch

pub returns : goal.returns
returns c =
    let t = drop c.args.at c.args.text.now in
    let no_branch = nothing_found _ _ c.after.result c.is_some.ensures c.if-is_some.false c.after.ensures in
    either_found (IsAtEnd t) (¬ IsAtEnd t) _ _ _ c.is_some-2.ensures c.after-2.ensures
    (not_at_end _ _ c.requires c.if-at-text.false no_branch) (λ b s. rw s.front of_group)
