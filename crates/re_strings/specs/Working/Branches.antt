-- The beginnings of strings in order.
use Rattle.std.specs.Prelude.{◌≡◌, ℕ, ◌+◌, ◌<◌, ◌≤◌, List, [], ◌∷◌, ◌++◌, length, take, get_or}
use Rattle.std.specs.Prelude.{slice_get, slice_index, All, nat_eq, ◌↔◌, if◌then◌else◌, Option, Some}
use Rattle.std.specs.Prelude.{None}
use Rattle.{re_trees.specs.Bytes.{Text, Begins}, re_strings.specs.declared.growth.Branch.Branch}
use Rattle.re_strings.specs.Working.FixedSets.{IsFront, IsString}

-- string i
abbrev pub text_at : List Text → ℕ → Text
text_at texts i = get_or texts i []

-- the end of a text comes before each byte
abbrev pub rank : Option ℕ → ℕ
rank None = 0
rank (Some b) = b + 1

-- of two strings that begin with the same bytes the next byte of the first is no greater
abbrev pub AreAscending : List Text → Type 0
AreAscending texts =
    (w : Text) (i j : ℕ) → i ≤ j → j < length texts → Begins w (text_at texts i) →
    Begins w (text_at texts j)
    → rank (slice_get (text_at texts i) (length w)) ≤ rank (slice_get (text_at texts j) (length w))

-- the beginning that a branch is
abbrev pub branch_text : List Text → Branch → Text
branch_text texts b = take b.depth (text_at texts b.low)

-- its strings are those that begin with it
pub record IsBranch (texts : List Text) (b : Branch) : Type 0 where
  pub within : b.high ≤ length texts
  pub deep : length (branch_text texts b) ≡ b.depth
  pub exact : (i : ℕ) → i < length texts → Begins (branch_text texts b) (text_at texts i) →
      (b.low ≤ i) × (i < b.high)
  pub shared : (i : ℕ) → b.low ≤ i → i < b.high → Begins (branch_text texts b) (text_at texts i)

abbrev pub no_branch : Branch
no_branch = record { byte = 0; depth = 0; low = 0; high = 0 }

abbrev pub branch_at : List Branch → ℕ → Branch
branch_at branches m = get_or branches m no_branch

-- the branches from one place to another are those with one byte more than this one
pub record IsRow (texts : List Text) (branches : List Branch) (b : Branch)
    (from to : ℕ) : Type 0 where
  pub child : (m : ℕ) → from ≤ m → m < to →
      branch_text texts (branch_at branches m) ≡ branch_text texts b ++
      (branch_at branches m).byte ∷ []
  pub complete : (c : ℕ) → IsFront texts (branch_text texts b ++ c ∷ []) →
      (m : ℕ) × (from ≤ m) × (m < to) × ((branch_at branches m).byte ≡ c)

-- the branches with one byte more than each of those before `done` are next to each other, from its
-- entry up to the next
pub record AreRows (texts : List Text) (branches : List Branch) (first : List ℕ)
    (done : ℕ) : Type 0 where
  pub few : done ≤ length branches
  pub entries : length first ≡ done + 1
  pub start : slice_index first 0 ≡ 1
  pub last : slice_index first done ≡ length branches
  pub some : 0 < length branches
  pub are : All (IsBranch texts) branches
  pub root : (branch_at branches 0).depth ≡ 0
  pub beyond : (n : ℕ) → n < done → n < slice_index first n
  pub ordered : (n : ℕ) → n < done → slice_index first n ≤ slice_index first (n + 1)
  pub within : (n : ℕ) → n < done → slice_index first (n + 1) ≤ length branches
  pub rows : (n : ℕ) → n < done →
      IsRow texts branches (branch_at branches n) (slice_index first n) (slice_index first (n + 1))

-- the length of a beginning that is a string, 0 for another
abbrev pub own_length : List Text → Branch → ℕ
own_length texts b = if nat_eq (length (text_at texts b.low)) b.depth then b.depth else 0

-- two lists have the same strings
abbrev pub HaveSame : List Text → List Text → Type 0
HaveSame texts strings = (w : Text) → IsString texts w ↔ IsString strings w
