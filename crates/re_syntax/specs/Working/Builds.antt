-- What a machine builds of tokens, one after another, and what the code's levels mean of it.
use Rattle.std.specs.Prelude.{◌≡◌, ℕ, ◌+◌, List, [], ◌∷◌, ◌++◌, Option, map}
use Rattle.re_syntax.specs.Tokens.{times, bar, opening, atom, closing, Token, lead}
use Rattle.re_syntax.specs.declared.building.{Building.Building, TreeFrame.TreeFrame}
use Rattle.{re_syntax.specs.Working.Mirrors.Mirrors, re_trees.specs.Holds.positions}
use Rattle.re_trees.specs.Expression.{Expression, begin, repeat, sequence, choice, cat}
use Rattle.re_trees.specs.Working.Trees.{expression_of}

-- a level that is built: its branches, and the items of the branch after them
pub record Frame : Type 0 where
  pub branches : List Expression
  pub items : List Expression

-- the innermost level, and those around it
pub record Built : Type 0 where
  pub level : Frame
  pub outer : List Frame

abbrev pub fresh : Frame
fresh = record { branches = []; items = [] }

-- the last item repeated
abbrev pub repeat_last : ℕ → Option ℕ → List Expression → List Expression
repeat_last least most [] = []
repeat_last least most (e ∷ []) = repeat e least most ∷ []
repeat_last least most (e ∷ f ∷ es) = e ∷ repeat_last least most (f ∷ es)

-- the number of positions of the last item, of the items before it, and of a level
abbrev pub last_positions : List Expression → ℕ
last_positions [] = 0
last_positions (e ∷ []) = positions e
last_positions (e ∷ f ∷ es) = last_positions (f ∷ es)

abbrev pub rest_positions : List Expression → ℕ
rest_positions [] = 0
rest_positions (e ∷ []) = 0
rest_positions (e ∷ f ∷ es) = positions e + rest_positions (f ∷ es)

abbrev pub level_positions : Frame → ℕ
level_positions l = positions (cat l.branches) + positions (cat l.items)

-- all branches of a level
abbrev pub branches_of : Frame → List Expression
branches_of l = l.branches ++ sequence l.items ∷ []

abbrev pub with_item : Expression → Frame → Frame
with_item e l = record { branches = l.branches; items = l.items ++ e ∷ [] }

abbrev pub left_group : Frame → List Frame → Built
left_group l [] = record { level = l; outer = [] }
left_group l (k ∷ ks) = record { level = with_item (choice (branches_of l)) k; outer = ks }

abbrev pub build : Token → Built → Built
build opening b = record { level = fresh; outer = b.level ∷ b.outer }
build closing b = left_group b.level b.outer
build bar b =
    record { level = record { branches = branches_of b.level; items = [] }; outer = b.outer }
build lead b = record { level = with_item begin b.level; outer = b.outer }
build (atom e) b = record { level = with_item e b.level; outer = b.outer }
build (times least most) b =
    record {
      level = record {
        branches = b.level.branches;
        items = repeat_last least most b.level.items;
      };
      outer = b.outer;
    }

unfoldable pub build_all : List Token → Built → Built
build_all [] b = b
build_all (k ∷ ks) b = build_all ks (build k b)

abbrev pub nothing_built : Built
nothing_built = record { level = fresh; outer = [] }

-- the trees of a level mean it
pub record FrameMeans (trees : TreeFrame) (l : Frame) : Type 0 where
  pub branches : map expression_of trees.branches.items ≡ l.branches
  pub items : map expression_of trees.items.items ≡ l.items

-- so do those of a level around it
abbrev pub IsFrame : List TreeFrame → TreeFrame → Frame → Type 0
IsFrame before = FrameMeans

pub record Builds (building : Building) (b : Built) : Type 0 where
  pub level : FrameMeans building.level b.level
  pub outer : Mirrors IsFrame building.outer.items b.outer

-- a token was built on
pub record BuildsOn (k : Token) (old new : Building) : Type 0 where
  pub on : (b : Built) → Builds old b → Builds new (build k b)
