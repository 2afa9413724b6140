use Rattle.re_search.proofs.Prelude.{IfSome, [], ◌∷◌, ◌∙◌, ap, sym, subst, string_expression, AddsEach}
use Rattle.re_search.proofs.strings.add_tree.Goals as goal

pub returns : goal.returns
returns c = subst (λ e. IfSome c.add_string.result (λ _. AddsEach (e ∷ []) c.args.strings.now.items c.add_string.new.strings.items)) (ap string_expression c.deref.ensures.value ∙ sym c.in_ok-string.ensures) c.add_string.ensures
