use Rattle.{re_search.proofs.Prelude.{sym, ap, ◌∙◌, meaning}, re_syntax.proofs.lemmas.FixedTokens.fixed_spelled}
use Rattle.re_search.proofs.pattern.Pattern.into_tree.Goals as goal

pub returns-in-Ok : goal.returns-in-Ok
returns-in-Ok c = rw c.in-String.is (c.meant.ensures ∙ ap (meaning c.args.fold) (sym (c.in-Ok.ensures.only _ (fixed_spelled _))))
