-- How many nodes trees have. They get fewer as a tree is dropped.
use Rattle.std.specs.Prelude.{Some, None, map, ℕ, ◌≤◌, List, ◌<◌, Option, ◌+◌, Vec, [], ◌∷◌}
use Rattle.std.specs.Global.{Global}
use Rattle.re_trees.specs.declared.tree.Tree.{TheFolds.fold-Tree, TheOpen.Tree-F, Tree}

-- the numbers added up
abbrev pub total : List ℕ → ℕ
total [] = 0
total (n ∷ ns) = n + total ns

-- one node, and those of each child
abbrev pub node_count : Tree-F ℕ → ℕ
node_count (Tree-F.Cat parts) = 1 + total parts.items
node_count (Tree-F.Alt parts) = 1 + total parts.items
node_count (Tree-F.Repeat part least most) = 1 + part.value
node_count node = 1

abbrev pub nodes_of : Tree → ℕ
nodes_of = fold-Tree ℕ node_count

-- the nodes of trees together
abbrev pub nodes_of_all : List Tree → ℕ
nodes_of_all trees = total (map nodes_of trees)

-- the nodes of trees that may be left
abbrev pub nodes_left : Option (Vec Tree Global) → ℕ
nodes_left None = 0
nodes_left (Some trees) = nodes_of_all trees.items

-- a part was taken, if there is one, of something that has `own` nodes; beside it there were the
-- nodes of the rest, and these are left
abbrev pub IsTaken : ℕ → ℕ → Option Tree → ℕ → Type 0
IsTaken own rest None left = left < own + rest
IsTaken own rest (Some part) left = (nodes_of part < own) × (nodes_of part + left ≤ own + rest)
