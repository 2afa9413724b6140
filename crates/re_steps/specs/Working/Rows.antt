-- Numbered sets of positions, and for each a row of cells with the set after each byte, as far as
-- that is held.
use Rattle.std.specs.Prelude.{Some, ◌<◌, suc, ℕ, slice_index, ◌^◌, ◌≡◌, List, ◌↔◌, ◌*◌, ◌≤◌}
use Rattle.std.specs.Prelude.{slice_get, IsTrue, false, [], if◌then◌else◌, true, length, ◌+◌, zero}
use Rattle.std.specs.Prelude.{nat_lt, ◌-◌, ◌⊎◌}
use Rattle.re_trees.specs.{Expression.Expression, Bytes.Text, Working.Trees.expression_of}
use Rattle.re_auto.specs.declared.{step.state_set.StateSet.StateSet, mode.Mode.TheVariants.Search}
use Rattle.re_auto.specs.{declared.mode.Mode.Mode, Working.StateSets.{IsMadeFor, IsSame, IsNowhere}}
use Rattle.re_auto.specs.Working.StateSets.{IsNextSet, IsAccepting, StandsAt, AreAlikeInClasses}
use Rattle.re_meter.specs.Meters.{Steps, many_reused}
use Rattle.re_steps.specs.declared.table.{Acceptance.Acceptance, LineSearch.LineSearch}
use Rattle.re_steps.specs.{declared.table.StepTable.StepTable, Working.Pairs.{Mirrors, unknown}}
use Rattle.re_steps.specs.Working.Stages.{IsPlain, Cache, Stage, Goes}

-- numbered sets, their marks and cells, what the cache holds of these, and how many cells it may hold
pub record Rows : Type 0 where
  pub classes : List ℕ
  pub stride : ℕ
  pub sets : List StateSet
  pub marks : List Acceptance
  pub cells : List ℕ
  pub entries : List (ℕ × ℕ)
  pub most : ℕ

abbrev pub rows_of : StepTable → Rows
rows_of t =
    record {
      classes = t.classes.items;
      stride = t.stride;
      sets = t.sets.keys;
      marks = t.marks.items;
      cells = t.pairs.cells;
      entries = t.pairs.entries;
      most = t.pairs.most;
    }

-- the expression whose automaton searches a line
abbrev pub expression_in : LineSearch → Expression
expression_in asked = expression_of asked.automaton.now

-- Cells below this are rows of sets where a search goes on. Others, but for `unknown`, are the row
-- of a set at which a matched stretch ends, plus this number.
abbrev pub limit : ℕ
limit = 2 ^ 30

-- row r, of rows of `stride` cells, is that of this set
pub record IsRowOf (sets : List StateSet) (stride r : ℕ) (set : StateSet) : Type 0 where
  pub number : ℕ
  pub row : r ≡ number * stride
  pub is : slice_get sets number ≡ Some set

abbrev pub IsRow : StepTable → ℕ → Type 0
IsRow t r = (set : StateSet) × IsRowOf t.sets.keys t.stride r set

-- row r is that of the set after this byte, where a search goes on
pub record GoesOnTo (e : Expression) (mode : Mode) (sets : List StateSet) (stride : ℕ)
    (from : StateSet) (byte r : ℕ) : Type 0 where
  pub into : StateSet
  pub row : IsRowOf sets stride r into
  pub next : IsNextSet e mode from byte into
  pub plain : IsPlain e mode into

-- row r is that of the set after this byte, at which a matched stretch ends inside a line
pub record StopsAt (e : Expression) (mode : Mode) (sets : List StateSet) (stride : ℕ)
    (from : StateSet) (byte r : ℕ) : Type 0 where
  pub into : StateSet
  pub row : IsRowOf sets stride r into
  pub next : IsNextSet e mode from byte into
  pub search : mode ≡ Search
  pub accepting : IsAccepting e Search into false

pub record SaysNext (e : Expression) (mode : Mode) (sets : List StateSet) (stride : ℕ)
    (from : StateSet) (byte cell : ℕ) : Type 0 where
  pub plain : cell < limit → GoesOnTo e mode sets stride from byte cell
  pub special : limit ≤ cell → cell < unknown → StopsAt e mode sets stride from byte (cell - limit)

-- a known cell says that of the set and the byte
abbrev pub IsKnownCell : LineSearch → StepTable → StateSet → ℕ → ℕ → Type 0
IsKnownCell asked t from byte cell =
    (cell < unknown) ×
    SaysNext (expression_in asked) asked.mode t.sets.keys t.stride from byte cell

-- the cell for a row and a byte
abbrev pub cell_at : List ℕ → List ℕ → ℕ → ℕ → ℕ
cell_at classes cells r byte = slice_index cells (r + slice_index classes byte)

-- the mark says at which places of a line a matched stretch ends if the search has this set
pub record IsMarkOf (e : Expression) (mode : Mode) (set : StateSet) (mark : Acceptance) : Type 0 where
  pub inside : IsTrue mark.inside ↔ IsAccepting e mode set false
  pub at_end : IsTrue mark.at_end ↔ IsAccepting e mode set true

-- the cell of a row whose set has this mark
abbrev pub IsCellOf : Mode → Acceptance → ℕ → ℕ → Type 0
IsCellOf mode mark row cell =
    ((cell ≡ row) × (mode ≡ Search → mark.inside ≡ false)) ⊎
    ((cell ≡ row + limit) × (mode ≡ Search) × (mark.inside ≡ true))

-- the mark of this number is the set's
pub record HasMark (e : Expression) (mode : Mode) (marks : List Acceptance) (number : ℕ)
    (set : StateSet) : Type 0 where
  pub mark : Acceptance
  pub is : slice_get marks number ≡ Some mark
  pub reported_too : IsMarkOf e mode set mark

-- All that is known is right for the automaton of this expression and for the mode. There are at most
-- three more sets than cells may be held.
pub record AreSound (e : Expression) (mode : Mode) (rows : Rows) : Type 0 where
  pub bytes : length rows.classes ≡ 256
  pub few_classes : rows.stride ≤ 256
  pub classed : (c : ℕ) → c < 256 → slice_index rows.classes c < rows.stride
  pub alike : AreAlikeInClasses e rows.classes
  pub made : (t : ℕ) (set : StateSet) → slice_get rows.sets t ≡ Some set → IsMadeFor e set
  pub apart : (s t : ℕ) (one other : StateSet) → slice_get rows.sets s ≡ Some one →
      slice_get rows.sets t ≡ Some other → IsSame one other → s ≡ t
  pub marked : (t : ℕ) (set : StateSet) → slice_get rows.sets t ≡ Some set →
      HasMark e mode rows.marks t set
  pub as_many : length rows.marks ≡ length rows.sets
  pub filled : length rows.cells ≡ length rows.sets * rows.stride
  pub few : length rows.cells ≤ limit
  pub few_sets : length rows.sets ≤ rows.most + 3
  pub mirrors : Mirrors rows.entries rows.cells
  pub reported_too : (r : ℕ) (from : StateSet) (c : ℕ) → IsRowOf rows.sets rows.stride r from → c < 256 →
      SaysNext e mode rows.sets rows.stride from c (cell_at rows.classes rows.cells r c)

-- row 0 is that of the set without positions, and the next that of a line's first place
pub record HasFirstRows (e : Expression) (mode : Mode) (sets : List StateSet) : Type 0 where
  pub nowhere : StateSet
  pub is_nowhere : slice_get sets 0 ≡ Some nowhere
  pub empty : IsNowhere nowhere
  pub start : StateSet
  pub is_start : slice_get sets 1 ≡ Some start
  pub stands : (line : Text) → StandsAt e mode line 0 start

pub record AreRight (e : Expression) (mode : Mode) (rows : Rows) : Type 0 where
  pub sound : AreSound e mode rows
  pub first : HasFirstRows e mode rows.sets

abbrev pub IsRight : Expression → Mode → StepTable → Type 0
IsRight e mode t = AreRight e mode (rows_of t)

abbrev pub IsSoundFor : LineSearch → StepTable → Type 0
IsSoundFor asked t = AreSound (expression_in asked) asked.mode (rows_of t)

abbrev pub IsRightFor : LineSearch → StepTable → Type 0
IsRightFor asked t = IsRight (expression_in asked) asked.mode t

-- a search can begin, or go on
abbrev pub IsReady : LineSearch → StepTable → Type 0
IsReady asked t = IsRightFor asked t × IsMadeFor (expression_in asked) t.scratch

-- what stays when a search ends
pub record Lasts (asked : LineSearch) (old new : StepTable) : Type 0 where
  pub made : IsMadeFor (expression_in asked) new.scratch
  pub most : new.pairs.most ≡ old.pairs.most

-- what stays when rows are made or removed
pub record Keeps (old new : StepTable) : Type 0 where
  pub scratch : new.scratch ≡ old.scratch
  pub most : new.pairs.most ≡ old.pairs.most

-- nothing is known
pub record AreNone (rows : Rows) : Type 0 where
  pub sets : rows.sets ≡ []
  pub marks : rows.marks ≡ []
  pub cells : rows.cells ≡ []
  pub entries : rows.entries ≡ []

abbrev pub IsBlank : StepTable → Type 0
IsBlank t = AreNone (rows_of t)

-- what contracts see of the table
abbrev pub cache_of : StepTable → Cache
cache_of t =
    record {
      classes = t.classes.items;
      stride = t.stride;
      sets = t.sets.keys;
      entries = t.pairs.entries;
    }

-- a search that came from a first stage is at place j in this row, with this cache and these steps
pub record ComesTo (e : Expression) (mode : Mode) (line : Text) (first : Stage) (cache : Cache)
    (steps : Steps) (j r : ℕ) : Type 0 where
  pub set : StateSet
  pub row : IsRowOf cache.sets cache.stride r set
  pub plain : j < length line → IsPlain e mode set
  pub goes : Goes e mode line j first (record { set = set; cache = cache; steps = steps })

-- the steps after n more that were reused
abbrev pub walked : ℕ → Steps → Steps
walked zero steps = steps
walked (suc n) steps = many_reused (suc n) steps

-- the row that a cell leads to
abbrev pub row_under : ℕ → ℕ
row_under cell = if nat_lt cell limit then cell else cell - limit

-- a search that came from a first stage to place j goes over the byte there by this cell, and then
-- it has this cache and these steps
pub record Lands (e : Expression) (mode : Mode) (line : Text) (first : Stage) (cache : Cache)
    (steps : Steps) (j cell : ℕ) : Type 0 where
  pub set : StateSet
  pub row : IsRowOf cache.sets cache.stride (row_under cell) set
  pub plain : cell < limit → IsPlain e mode set
  pub special : limit ≤ cell → (mode ≡ Search) × IsAccepting e Search set false
  pub goes : Goes e mode line (suc j) first (record { set = set; cache = cache; steps = steps })

-- the same if only this set is known, and nothing is held any more
abbrev pub LandsAlone : Expression → Mode → Text → Stage → StateSet → Steps → ℕ → Type 0
LandsAlone e mode line first set steps j =
    (cache : Cache) → cache.entries ≡ [] →
    Goes e mode line (suc j) first (record { set = set; cache = cache; steps = steps })

-- what was known still is, and sets were added after the others
pub record AreExtended (old new : Rows) : Type 0 where
  pub classes : new.classes ≡ old.classes
  pub stride : new.stride ≡ old.stride
  pub sets : (number : ℕ) (set : StateSet) → slice_get old.sets number ≡ Some set →
      slice_get new.sets number ≡ Some set
  pub cells : (k : ℕ) → k < length old.cells → slice_index new.cells k ≡ slice_index old.cells k
  pub more : length old.cells ≤ length new.cells
  pub entries : new.entries ≡ old.entries

abbrev pub Extends : StepTable → StepTable → Type 0
Extends old new = AreExtended (rows_of old) (rows_of new)

-- what is known is right for the expression and the mode, or nothing is known
abbrev pub IsKnownFor : Expression → Mode → StepTable → Type 0
IsKnownFor e mode t = IsBlank t ⊎ IsRight e mode t
