-- A buffered writer in contracts, and what it sends to the writer beneath.
use Rattle.std.specs.Prelude.{◌≡◌, ℕ, [], ◌++◌, Option, Result, MatchResult}
use Rattle.std.specs.Io.KnownBytes.{append_known, Appends}
use Rattle.{re_trees.specs.Bytes.Text, grep_io.specs.Counted.one_more}

pub record BufferedWriter (W : Type 0) : Type 0 where
  pub inner : W
  -- the bytes taken and not yet sent to the inner writer, in order
  pub waiting : Text

-- all the bytes written, where those of the inner writer are known
abbrev pub all_contents : {W : Type 0} → (W → Option Text) → BufferedWriter W → Option Text
all_contents contents out = append_known (contents out.inner) out.waiting

module _ {W : Type 0} (contents : W → Option Text) (failures : W → ℕ) where
  -- all bytes that waited were sent to the inner writer, and no write failed
  pub record SendsAll (old new : BufferedWriter W) : Type 0 where
    pub written : Appends (contents old.inner) (contents new.inner) old.waiting
    pub none_waits : new.waiting ≡ []
    pub none_failed : failures new.inner ≡ failures old.inner

  -- a beginning of the bytes that waited was sent to the inner writer, and a write failed; the rest
  -- waits
  pub record SendsSome (old new : BufferedWriter W) : Type 0 where
    pub front : Text
    pub cut : old.waiting ≡ front ++ new.waiting
    pub written : Appends (contents old.inner) (contents new.inner) front
    pub counted : failures new.inner ≡ one_more (failures old.inner)

  -- at an Ok all were sent, at an Err a beginning
  abbrev pub Sends : {T E : Type 0} → BufferedWriter W → BufferedWriter W → Result T E → Type 0
  Sends old new r = MatchResult r (λ _. SendsAll old new) (λ _. SendsSome old new)
