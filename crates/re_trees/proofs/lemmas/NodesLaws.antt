-- How many nodes a sequence has, and a list of trees.
use Rattle.re_trees.{proofs.Prelude.{◌≡◌, ◌+◌, ℕ, List, [], ◌∷◌, ◌++◌, Vec, Global, arith, Tree, Tree-F, fold-roll-Tree, Cat, rolls-Cat}, specs.Working.Nodes.{nodes_of, node_count, nodes_of_all}}

-- a sequence
pub nodes-Cat : (parts : Vec Tree Global) → nodes_of (Cat parts) ≡ 1 + nodes_of_all parts.items
nodes-Cat parts = cc (rolls-Cat parts, fold-roll-Tree ℕ node_count (Tree-F.Cat parts))

-- trees and one more
pub nodes_and_one : (trees : List Tree) (tree : Tree) → nodes_of_all (trees ++ tree ∷ []) ≡ nodes_of_all trees + nodes_of tree
nodes_and_one [] tree = omega arith
nodes_and_one (t ∷ ts) tree = let more = nodes_and_one ts tree in omega arith
