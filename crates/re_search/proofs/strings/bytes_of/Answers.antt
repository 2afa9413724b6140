use Rattle.re_search.proofs.{Prelude.{rules, ◌≡◌, [], ◌∷◌, ◌++◌, subst, byte, expression_of}, lemmas.PlainStrings.byte_more}
use Rattle.re_search.proofs.strings.bytes_of.Goals as goal

pub trees-preserved : goal.trees-preserved
trees-preserved c =
    let b = c.in_ok-byte.byte in
    let added : c.push.new.self.items ≡ c.trees.text.items ++ b ∷ [] = search rules in
    rw added (byte_more expression_of c.args.trees.now c.trees.place c.index-trees-place.result c.trees.text.items b c.trees-test.true c.trees.invariant
    (subst (λ t. expression_of t ≡ byte b) c.index-trees-place.is c.in_ok-byte.ensures))
