use Rattle.re_search.proofs.{Prelude.{◌≡◌, ◌++◌, [], ◌∷◌, map, ap, ◌∙◌, arith, map-append, alt, expression_of, positions, pattern_expression}, lemmas.ReadingLaws.{choice_positions, meant_positions}}
use Rattle.re_search.proofs.choice.Choice.add.Goals as goal

pub overflow_add-self : goal.overflow_add-self
overflow_add-self c = omega (arith, c.self.invariant.0, c.requires.room, c.positions-count.ensures c.args.fold c.requires.counted, ap (λ ts. positions (alt (map expression_of ts))) c.self.view_is)

pub invariant_of-self-2 : goal.invariant_of-self-2
invariant_of-self-2 c =
    let tree = c.in_ok-tree.tree in
    let old = c.self.inside.trees.items in
    let grown : map expression_of c.push.new.self.items ≡ map expression_of old ++ expression_of tree ∷ [] = ap (map expression_of) c.in_ok-push.ensures.items ∙ map-append expression_of old (tree ∷ []) in
    let count = c.positions-count.ensures c.args.fold c.requires.counted in
    let meant = ap positions c.in_ok-tree.ensures ∙ meant_positions c.args.fold (pattern_expression c.args.pattern) in
    (omega (arith, c.self.invariant.0, count, meant, choice_positions (map expression_of old) (expression_of tree), ap (λ es. positions (alt es)) grown), omega (arith, c.self.invariant.0, c.requires.room, count, ap (λ ts. positions (alt (map expression_of ts))) c.self.view_is))
