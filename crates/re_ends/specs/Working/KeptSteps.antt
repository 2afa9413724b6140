-- Steps between rows of groups, as far as they are kept.
use Rattle.std.specs.Prelude.{List, ◌≤◌, ◌^◌, slice_get, get_or, ◌-◌, Bool, ◌<◌, ◌∷◌, ◌*◌, length}
use Rattle.std.specs.Prelude.{Vec, Some, ◌+◌, false, [], ℕ, ◌≡◌, slice_index, nat_eq, vec_capacity}
use Rattle.std.specs.{declared.alloc.Global.Global, List.range_with_len}
use Rattle.re_trees.specs.{Expression.Expression, Holds.positions}
use Rattle.re_auto.specs.Working.{Positions.{part_of, Part}, StateSets.AreAlikeInClasses}
use Rattle.re_ends.specs.declared.{list.Run.Run, kept.{Step.Step, KeptSteps.KeptSteps}}
use Rattle.re_ends.specs.Working.Groups.{IsFirstIn, IsRow, IsStep, numbers_of}

-- lists of numbers
abbrev pub Lists : Type 0
Lists = List (Vec ℕ Global)

abbrev pub AllRuns : Type 0
AllRuns = List (Vec Run Global)

-- Operations from this one on are numbers of lists of runs of ends that stay, plus this. The last is
-- none.
abbrev pub listed : ℕ
listed = 2 ^ 15

abbrev pub unknown : ℕ
unknown = 2 ^ 16 - 1

-- An operation says which ends stay: those from one on, or those of runs. It is 0 where none stays.
abbrev pub IsOperation : AllRuns → ℕ → List ℕ → Type 0
IsOperation lists op kept =
    (op < listed → (op ≡ slice_index kept 0) × (kept ≡ range_with_len op (length kept))) ×
    (listed ≤ op → (runs : Vec Run Global) × (slice_get lists (op - listed) ≡ Some runs) ×
    (kept ≡ numbers_of runs.items))

-- the lists stay, and others may come after them
abbrev pub AreLonger : AllRuns → AllRuns → Type 0
AreLonger old new =
    (k : ℕ) (runs : Vec Run Global) → slice_get old k ≡ Some runs → slice_get new k ≡ Some runs

abbrev pub no_step : Step
no_step = record { row = 0; inside = 0; op = unknown; count = 0 }

-- the classes of bytes and their number, rows, cells, and runs of ends that stay
pub record Rows : Type 0 where
  pub classes : List ℕ
  pub width : ℕ
  pub rows : Lists
  pub cells : List Step
  pub lists : AllRuns

abbrev pub rows_of : KeptSteps → Rows
rows_of s =
    record {
      classes = s.classes.items;
      width = s.width;
      rows = s.rows.items;
      cells = s.cells.items;
      lists = s.lists.items;
    }

-- Of these rows of cells, which lie `width` apart, the one that begins at r is that of these groups.
-- `end` says that it is the first, that of a line's end.
pub record IsRowOf (width : ℕ) (rows : Lists) (r : ℕ) (end : Bool) (groups : List ℕ) : Type 0 where
  pub number : ℕ
  pub list : Vec ℕ Global
  pub row : r ≡ number * width
  pub is : slice_get rows number ≡ Some list
  pub same : groups ≡ list.items
  pub last : end ≡ nat_eq number 0

abbrev pub IsRowIn : KeptSteps → ℕ → Bool → List ℕ → Type 0
IsRowIn s = IsRowOf s.width s.rows.items

-- what a cell says of the step over a byte from these groups
pub record IsKeptStep (part : Part) (width : ℕ) (rows : Lists) (lists : AllRuns) (end : Bool)
    (from : List ℕ) (c : ℕ) (step : Step) : Type 0 where
  pub into : List ℕ
  pub row : IsRowOf width rows step.row false into
  pub kept : List ℕ
  pub op : IsOperation lists step.op kept
  pub count : length kept ≡ step.count
  pub right : IsStep part end from c kept into
  pub inside : IsFirstIn (part.first false) into step.inside

-- the cell of a row for a byte
abbrev pub cell_at : Rows → ℕ → ℕ → Step
cell_at rows row c = get_or rows.cells (row + slice_index rows.classes c) no_step

-- bytes of one class are taken by the same positions
pub record AreClasses (e : Expression) (classes : List ℕ) (width : ℕ) : Type 0 where
  pub bytes : length classes ≡ 256
  pub classed : (c : ℕ) → c < 256 → slice_index classes c < width
  pub narrow : width ≤ 256
  pub alike : AreAlikeInClasses e classes

-- classes and rows are right for the automaton of this expression
pub record AreRows (e : Expression) (bytes : List ℕ) (width : ℕ) (all : Lists) : Type 0 where
  pub classes : AreClasses e bytes width
  pub rows : (k : ℕ) (list : Vec ℕ Global) →
      slice_get all k ≡ Some list → IsRow (positions e) list.items
  pub begin : (first : Vec ℕ Global) × (second : Vec ℕ Global) × (third : Vec ℕ Global) ×
      (more : Lists) × (all ≡ first ∷ second ∷ third ∷ more) ×
      (first.items ≡ []) × (second.items ≡ []) × (positions e ≤ vec_capacity third)
  pub small : length all * width ≤ 2 ^ 30

-- and there are cells for them
abbrev pub AreRowsFor : Expression → KeptSteps → Type 0
AreRowsFor e s =
    AreRows e s.classes.items s.width s.rows.items ×
    (length s.rows.items * s.width ≤ length s.cells.items)

-- all that is kept is right for it
pub record AreRight (e : Expression) (known : Rows) : Type 0 where
  pub rows : AreRows e known.classes known.width known.rows
  pub filled : length known.rows * known.width ≤ length known.cells
  pub kept : (row : ℕ) (end : Bool) (groups : List ℕ) (c : ℕ) →
      IsRowOf known.width known.rows row end groups → c < 256 →
      Step.op (cell_at known row c) < unknown →
      IsKeptStep (part_of e 0) known.width known.rows known.lists end groups c (cell_at known row c)

abbrev pub AreStepsFor : Expression → KeptSteps → Type 0
AreStepsFor e steps = AreRight e (rows_of steps)
