-- How a search goes over a line, byte by byte: what its cache holds on the way, and which steps it
-- counts.
use Rattle.std.specs.Prelude.{suc, true, IsSome, length, ◌*◌, slice_index, ◌≤◌, ℕ, [], ◌≡◌, false}
use Rattle.std.specs.Prelude.{Bool, ◌⊎◌, IsTrue, nat_eq, ◌↔◌, List, Some, ◌+◌, slice_get, zero, ◌<◌}
use Rattle.std.specs.{Prelude.if◌then◌else◌, Map.lookup}
use Rattle.re_trees.specs.{Expression.Expression, Bytes.Text}
use Rattle.re_auto.specs.Working.StateSets.{TakenAlike, StandsAt, IsNextSet, IsNowhere, IsAccepting}
use Rattle.re_auto.specs.Working.{StateSets.IsSame, Positions.part_of, Tables.CanBegin}
use Rattle.re_auto.specs.declared.mode.Mode.{Mode, TheVariants.{Search, Whole}}
use Rattle.re_auto.specs.declared.step.state_set.StateSet.{StateSet}
use Rattle.re_meter.specs.Meters.{many_reused, Steps, many_built}

-- A cache: a class for each byte, numbered sets of positions, and entries. The entry for a set and
-- a byte is at the set's number times `stride`, plus the byte's class.
pub record Cache : Type 0 where
  pub classes : List ℕ
  pub stride : ℕ
  pub sets : List StateSet
  pub entries : List (ℕ × ℕ)

-- the cache holds the pair of this set and this byte
pub record IsHeld (cache : Cache) (set : StateSet) (c : ℕ) : Type 0 where
  pub number : ℕ
  pub same : StateSet
  pub is : slice_get cache.sets number ≡ Some same
  pub alike : IsSame same set
  pub held : IsSome
      (lookup (nat_eq (number * cache.stride + slice_index cache.classes c)) cache.entries)

-- the new cache holds no pair that the old one didn't, but for those of this set and of bytes that
-- the same positions take as this one
abbrev pub HoldsNoOther : Expression → Cache → StateSet → ℕ → Cache → Type 0
HoldsNoOther e old set c new =
    (other : StateSet) (b : ℕ) → b < 256 → IsHeld new other b →
    IsHeld old other b ⊎ (IsSame other set × TakenAlike e b c)

-- what a search has at some place: the set of positions, the cache, and the steps counted
pub record Stage : Type 0 where
  pub set : StateSet
  pub cache : Cache
  pub steps : Steps

-- two stages that differ in nothing
pub record AreAlike (one other : Stage) : Type 0 where
  pub set : IsSame one.set other.set
  pub cache : one.cache ≡ other.cache
  pub steps : one.steps ≡ other.steps

-- the pair of set and byte is held: its step counts as reused, and the cache stays
pub record IsReused (e : Expression) (mode : Mode) (c : ℕ) (old new : Stage) : Type 0 where
  pub held : IsHeld old.cache old.set c
  pub next : IsNextSet e mode old.set c new.set
  pub cache : new.cache ≡ old.cache
  pub steps : new.steps ≡ many_reused 1 old.steps

-- it is not: the step counts as built, and no other pair is held afterwards that was not held
-- before
pub record IsBuilt (e : Expression) (mode : Mode) (c : ℕ) (old new : Stage) : Type 0 where
  pub not_held : ¬ IsHeld old.cache old.set c
  pub next : IsNextSet e mode old.set c new.set
  pub cache : HoldsNoOther e old.cache old.set c new.cache
  pub steps : new.steps ≡ many_built 1 old.steps

-- No stretch is on its way and none can begin with the byte, so it takes the set to itself. Many such
-- bytes are gone over at once: each step counts as built, and the cache stays.
pub record IsPassed (e : Expression) (mode : Mode) (c : ℕ) (old new : Stage) : Type 0 where
  pub search : mode ≡ Search
  pub nowhere : IsNowhere old.set
  pub never : ¬ CanBegin (part_of e 0) c
  pub set : IsSame new.set old.set
  pub cache : new.cache ≡ old.cache
  pub steps : new.steps ≡ many_built 1 old.steps

-- a search for some matched stretch goes on only where none ends that it knows of
abbrev pub IsPlain : Expression → Mode → StateSet → Type 0
IsPlain e mode set = mode ≡ Search → ¬ IsAccepting e Search set false

-- a search goes over one byte
pub record GoesOver (e : Expression) (mode : Mode) (c : ℕ) (old new : Stage) : Type 0 where
  pub plain : IsPlain e mode old.set
  pub over : IsReused e mode c old new ⊎ (IsBuilt e mode c old new ⊎ IsPassed e mode c old new)

-- it goes over the first n bytes of the line, one after the other
unfoldable pub Goes : Expression → Mode → Text → ℕ → Stage → Stage → Type 0
Goes e mode line zero first last = AreAlike last first
Goes e mode line (suc j) first last =
    (middle : Stage) × Goes e mode line j first middle ×
    GoesOver e mode (slice_index line j) middle last

-- it goes on from place j with one set to place k with another, with a cache that holds nothing;
-- the first set is not one where it ends
abbrev pub GoesFrom : Expression → Mode → Text → ℕ → StateSet → Steps → ℕ → StateSet → Steps →
    Type 0
GoesFrom e mode line j set before k next after =
    (first : Stage) (cache : Cache) → cache.entries ≡ [] → IsPlain e mode set →
    Goes e mode line j first (record { set = set; cache = cache; steps = before })
    → Goes e mode line k first (record { set = next; cache = cache; steps = after })

-- a matched stretch ends at the place, which lies inside the line
pub record EndsInside (e : Expression) (mode : Mode) (line : Text) (place : ℕ) (set : StateSet)
    (answer : Bool) : Type 0 where
  pub search : mode ≡ Search
  pub within : place < length line
  pub accepting : IsAccepting e Search set false
  pub yes : answer ≡ true

-- the whole line has to be matched, and no stretch from its first place is on its way any more
pub record IsLost (mode : Mode) (set : StateSet) (answer : Bool) : Type 0 where
  pub whole : mode ≡ Whole
  pub nowhere : IsNowhere set
  pub no : answer ≡ false

-- the place is the line's end, and the set decides
pub record EndsLine (e : Expression) (mode : Mode) (line : Text) (place : ℕ) (set : StateSet)
    (answer : Bool) : Type 0 where
  pub last : place ≡ length line
  pub reported : IsTrue answer ↔ IsAccepting e mode set true

-- why a search ends with this answer at a place with this set
abbrev pub Decides : Expression → Mode → Text → ℕ → StateSet → Bool → Type 0
Decides e mode line place set answer =
    EndsInside e mode line place set answer ⊎
    (IsLost mode set answer ⊎ EndsLine e mode line place set answer)

-- the search went on until it had an answer, with this cache and these steps at its end
pub record Finishes (e : Expression) (mode : Mode) (line : Text) (first : Stage) (cache : Cache)
    (steps : Steps) (answer : Bool) : Type 0 where
  pub place : ℕ
  pub within : place ≤ length line
  pub set : StateSet
  pub goes : Goes e mode line place first (record { set = set; cache = cache; steps = steps })
  pub decides : Decides e mode line place set answer

-- it does so from a place with this set, with a cache that holds nothing; it had no answer before
-- that place
abbrev pub FinishesFrom : Expression → Mode → Text → ℕ → StateSet → Steps → Steps → Bool → Type 0
FinishesFrom e mode line from set old new answer =
    (first : Stage) (cache : Cache) → cache.entries ≡ [] →
    Goes e mode line from first (record { set = set; cache = cache; steps = old }) →
    Finishes e mode line first cache new answer

-- a cache is as it was, or it was made ready and holds nothing as before
abbrev pub IsReadied : Cache → Cache → Type 0
IsReadied old new = (new ≡ old) ⊎ ((old.entries ≡ []) × (new.entries ≡ []))

-- a whole search of a line, from its first place on
pub record Searches (e : Expression) (mode : Mode) (line : Text) (old new : Cache)
    (before after : Steps) (answer : Bool) : Type 0 where
  pub first : Stage
  pub stands : StandsAt e mode line 0 first.set
  pub cache : IsReadied old first.cache
  pub steps : first.steps ≡ before
  pub finishes : Finishes e mode line first new after answer

-- the mode in which a line is searched (XCU grep, option -x)
abbrev pub mode_for : Bool → Mode
mode_for whole = if whole then Whole else Search
