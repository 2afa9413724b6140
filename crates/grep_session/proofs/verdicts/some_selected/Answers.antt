use Rattle.grep_session.proofs.{Prelude.{◌∙◌, nat_lt, all_of}, lemmas.CountLaws.{some_matched, some_not_matched}}
use Rattle.grep_session.proofs.verdicts.some_selected.Goals as goal

pub returns-then-options : goal.returns-then-options
returns-then-options c = (λ i. nat_lt (c.hits.ensures i) (c.len.ensures i)) ∙ some_not_matched c.args.options.now c.if-options.true (all_of c.args.lines.now)

pub returns : goal.returns
returns c = cc (c.hits-2.ensures, some_matched c.args.options.now c.if-options.false (all_of c.args.lines.now))
