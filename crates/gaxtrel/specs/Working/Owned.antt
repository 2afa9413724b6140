-- What a handle owns, and what the calls leave of it.
use Rattle.std.specs.{Box.Ownership.box_owns, contracts.impls.GlobalAllocator.TheImpl.ghosts}
use Rattle.std.specs.Prelude.{None, false, true, Bool, ◌≡◌, Some, Option}
use Rattle.gaxtrel.specs.Kept.{Kept, sought_in}
use base.Fml.{Fml, ftrue}
use denote.RattleType.{RattleType}
use denote.RawPtr.{Ptr}
use Rattle.std.specs.contracts.alloc.Global as global

-- what is boxed at the pointer, a value of this type, with the right to free it, if there is any
abbrev pub held_owns : (R : RattleType) → (global.the_row).Denot → Ptr → Option R.Denot → Fml
held_owns R alloc at (Some held) = box_owns (ghosts.dealloc_token alloc) R at held
held_owns R alloc at None = ftrue

-- whether there is
abbrev pub is_held : {H : Type 0} → Option H → Bool
is_held (Some held) = true
is_held None = false

-- they are apart and limited as before, and search for the same
abbrev pub Stays : Kept → Kept → Type 0
Stays old new = (sought_in new ≡ sought_in old) × (new.apart ≡ old.apart) × (new.limit ≡ old.limit)
