-- A write of several bytes that may stop on the way.
use Rattle.std.specs.{Prelude.{◌≡◌, ℕ, ◌++◌, Option, Result, MatchResult}, Io.KnownBytes.Appends}
use Rattle.{re_trees.specs.Bytes.Text, grep_io.specs.Counted.one_more}

module _ {W : Type 0} (contents : W → Option Text) (failures : W → ℕ) where
  -- a beginning of the bytes was written, and then a write failed
  pub record StopsWithin (old new : W) (bytes : Text) : Type 0 where
    pub front : Text
    pub rest : Text
    pub cut : bytes ≡ front ++ rest
    pub written : Appends (contents old) (contents new) front
    pub counted : failures new ≡ one_more (failures old)

  -- all bytes were written and no write failed
  pub record GoesOut (old new : W) (bytes : Text) : Type 0 where
    pub written : Appends (contents old) (contents new) bytes
    pub none_failed : failures new ≡ failures old

  -- at an Ok all bytes were written, at an Err a beginning of them, and then a write failed
  abbrev pub Writes : {T E : Type 0} → W → W → Text → Result T E → Type 0
  Writes old new bytes r =
      MatchResult r (λ _. GoesOut old new bytes) (λ _. StopsWithin old new bytes)
