-- What a set of positions means on a line and at a place.
use Rattle.std.specs.Prelude.{slice_index, List, false, Bool, ◌↔◌, ℕ, length, ◌<◌, ◌≡◌}
use Rattle.re_trees.specs.{Bytes.Text, Expression.Expression, Holds.positions}
use Rattle.re_auto.specs.Working.{Tables.words_for, Bits.Has, Positions.{is_begin, part_of}}
use Rattle.re_auto.specs.Working.SteppedSets.{IsAfter, IsNext, Accepts}
use Rattle.re_auto.specs.declared.{step.state_set.StateSet.StateSet, mode.Mode.Mode}

-- the set was made for the automaton of this expression, and has only its positions
abbrev pub IsMadeFor : Expression → StateSet → Type 0
IsMadeFor e set =
    (length set.words.items ≡ words_for (positions e)) ×
    ((q : ℕ) → Has set.words.items q → q < positions e)

-- the two sets were made for automata of the same size
abbrev pub IsAlike : StateSet → StateSet → Type 0
IsAlike one other = length one.words.items ≡ length other.words.items

-- the two sets have the same positions and the same mark, so all that is said of the one is true of
-- the other
abbrev pub IsSame : StateSet → StateSet → Type 0
IsSame one other = (one.words.items ≡ other.words.items) × (one.at_begin ≡ other.at_begin)

-- the set has no position and no mark
abbrev pub IsNowhere : StateSet → Type 0
IsNowhere set = (set.at_begin ≡ false) × ((q : ℕ) → ¬ Has set.words.items q)

-- the set is right at place j of the line: its mark says whether that is the first, and its
-- positions are those to which stretches of the mode can have come
unfoldable pub StandsAt : Expression → Mode → Text → ℕ → StateSet → Type 0
StandsAt e mode line j set =
    (set.at_begin ≡ is_begin j) × IsAfter (part_of e 0) mode line j (Has set.words.items)

-- the second set is what the first becomes by one more byte
unfoldable pub IsNextSet : Expression → Mode → StateSet → ℕ → StateSet → Type 0
IsNextSet e mode from byte into =
    (into.at_begin ≡ false) ×
    IsNext (part_of e 0) mode from.at_begin (Has from.words.items) byte (Has into.words.items)

-- by the set's mark and positions, some stretch of the mode that ends here is matched
unfoldable pub IsAccepting : Expression → Mode → StateSet → Bool → Type 0
IsAccepting e mode set at_end = Accepts (part_of e 0) mode set.at_begin at_end (Has set.words.items)

-- the same positions take both bytes
abbrev pub TakenAlike : Expression → ℕ → ℕ → Type 0
TakenAlike e b c = (q : ℕ) → (part_of e 0).takes q b ↔ (part_of e 0).takes q c

-- bytes of one class are taken by the same positions
abbrev pub AreAlikeInClasses : Expression → List ℕ → Type 0
AreAlikeInClasses e classes =
    (b c : ℕ) → b < 256 → c < 256 → slice_index classes b ≡ slice_index classes c → TakenAlike e b c
