use Rattle.re_syntax.proofs.{Prelude.{drop, NeedsItem, needs_interval, needs_plus, needs_question}, lemmas.{BasicTokenReading.needs_no_item, Places.{either_found, some_found, nothing_found}}}
use Rattle.re_syntax.proofs.basic.duplications.needs_item.Goals as goal

pub returns-then-is_some : goal.returns-then-is_some
returns-then-is_some c =
    let (b, s) = some_found _ _ c.after.result c.is_some.ensures c.if-is_some.true c.after.ensures in rw s.front needs_interval

pub returns-then-is_some-2 : goal.returns-then-is_some-2
returns-then-is_some-2 c =
    let (b, s) = some_found _ _ c.after-2.result c.is_some-2.ensures c.if-is_some-2.true c.after-2.ensures in rw s.front needs_plus

pub returns : goal.returns
returns c =
    let t = drop c.args.at c.args.text.now in
    let no_interval = nothing_found _ _ c.after.result c.is_some.ensures c.if-is_some.false c.after.ensures in
    let no_plus = nothing_found _ _ c.after-2.result c.is_some-2.ensures c.if-is_some-2.false c.after-2.ensures in
    either_found (NeedsItem t) (¬ NeedsItem t) _ _ _ c.is_some-3.ensures c.after-3.ensures
    (needs_no_item no_interval no_plus) (λ b s. rw s.front needs_question)
