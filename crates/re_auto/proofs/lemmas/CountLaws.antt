-- Counts of positions: of sequences and choices, and up to a limit.
use Rattle.{re_auto.proofs.Prelude.{◌≡◌, ℕ, zero, suc, ◌+◌, ◌*◌, ◌<◌, min, List, [], ◌∷◌, ◌++◌, map, take, length, get_or, Option, Vec, Box, Global, refl, arith, take_more, map-append, Expression, cat, alt, expression_of, positions, copies, most_positions, Tree, Alt, Repeat}, re_trees.proofs.lemmas.ExpressionLaws.{expression-Alt, expression-Repeat}}

-- a choice has as many positions as the sequence of its branches
pub positions-alt : (es : List Expression) → positions (alt es) ≡ positions (cat es)
positions-alt [] = refl
positions-alt (e ∷ es) = rw (positions-alt es)

-- the positions with one more member
pub positions-more : (es : List Expression) (e : Expression) → positions (cat (es ++ (e ∷ []))) ≡ positions (cat es) + positions e
positions-more [] e = omega arith
positions-more (f ∷ es) e = omega (arith, positions-more es e)

-- a tree of branches, and a repeated tree
pub count-Alt : (members : Vec Tree Global) → positions (expression_of (Alt members)) ≡ positions (cat (map expression_of members.items))
count-Alt members = cc (expression-Alt members, positions-alt _)

pub count-Repeat : (part : Box Tree Global) (least : ℕ) (most : Option ℕ) → positions (expression_of (Repeat part least most)) ≡ copies least most * positions (expression_of part.value)
count-Repeat part least most = rw (expression-Repeat part least most)

-- a limit on a factor is a limit on the product
pub min_product : (a b limit : ℕ) → min (a * min b limit) limit ≡ min (a * b) limit
min_product zero b limit = omega arith
min_product (suc a) b limit = omega (arith, min_product a b limit)

-- the positions with one more member, up to the limit
pub counted_more : (members : List Tree) (i : ℕ) (member : Tree) → i < length members → member ≡ get_or members i member → (count more next : ℕ) →
    count ≡ min (positions (cat (map expression_of (take i members)))) (most_positions + 1) → more ≡ min (positions (expression_of member)) (most_positions + 1) → next ≡ min (count + more) (most_positions + 1) →
    next ≡ min (positions (cat (map expression_of (take (i + 1) members)))) (most_positions + 1)
counted_more members i member lt is count more next counted of step = rw (take_more members i member lt, map-append, positions-more, ← is) (omega arith)
