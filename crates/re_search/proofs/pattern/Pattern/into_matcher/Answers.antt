use Rattle.re_search.proofs.{Prelude.{◌≡◌, ◌∙◌, ap, arith, positions, expression_of, pattern_expression}, lemmas.ReadingLaws.{meant_positions, positions_string}, pattern.Pattern.into_matcher.Goals.{in_default-via-in-String+else-not-fold, in_default-via-in_default}}
use Rattle.re_search.proofs.pattern.Pattern.into_matcher.Goals as goal

pub tree_matcher-requires-clause-small : goal.tree_matcher-requires-clause-small
tree_matcher-requires-clause-small c =
    let p = c.in_default.self in
    let same : positions (expression_of c.in_ok-into_tree-in_default.field-0) ≡ positions (pattern_expression p) = ap positions c.in_ok-into_tree-in_default.ensures ∙ meant_positions c.args.fold (pattern_expression p) in
    elim c.in_default.branch [
      | in_default-via-in-String+else-not-fold w ↦ let few = (rw w.in-String.is at c.requires.small) w.if-not-fold.false in omega (arith, few, same, positions_string w.in-String.text.now, ap (λ q. positions (pattern_expression q)) w.self-is)
      | in_default-via-in_default w ↦ let (is, few) = rw w.in_default.is at c.requires.small in omega (arith, is, few, same, ap (λ q. positions (pattern_expression q)) w.self-is, ap (λ q. positions (pattern_expression q)) w.in_default.is)
    ]
