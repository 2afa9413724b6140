-- What is sent of a buffer, and where the rows in it end.
use Rattle.std.specs.Prelude.{◌≡◌, ℕ, ◌<◌, ◌≤◌, ◌⊎◌, [], ◌∷◌, ◌++◌, Option, Result, MatchOption}
use Rattle.std.specs.{Prelude.{MatchResult, length, take, drop}, Io.KnownBytes.Appends}
use Rattle.re_trees.specs.{Bytes.Text, Lines.{newline, HasNoNewline}}
use Rattle.grep_io.specs.Buffer.{BufferedWriter, SendsSome}

-- the first n bytes end in a newline, and no newline is after them
pub record EndsRows (bytes : Text) (n : ℕ) : Type 0 where
  pub some : 0 < n
  pub within : n ≤ length bytes
  pub front : Text
  pub ended : take n bytes ≡ front ++ newline ∷ []
  pub none_after : HasNoNewline (drop n bytes)

module _ {W : Type 0} (contents : W → Option Text) (failures : W → ℕ) where
  -- the first n bytes that waited were sent to the inner writer, and no write failed; the others
  -- wait
  pub record SendsFront (n : ℕ) (old new : BufferedWriter W) : Type 0 where
    pub written : Appends (contents old.inner) (contents new.inner) (take n old.waiting)
    pub rest : new.waiting ≡ drop n old.waiting
    pub none_failed : failures new.inner ≡ failures old.inner

  -- all rows that waited whole were sent to the inner writer, or all bytes where no row was whole,
  -- and no write failed
  pub record SendsWhole (old new : BufferedWriter W) : Type 0 where
    pub count : ℕ
    pub whole : EndsRows old.waiting count ⊎
        (HasNoNewline old.waiting × (count ≡ length old.waiting))
    pub front : SendsFront count old new

  -- at an Ok the whole rows were sent, at an Err a beginning of what waited
  abbrev pub SendsRows : {T E : Type 0} → BufferedWriter W → BufferedWriter W → Result T E → Type 0
  SendsRows old new r =
      MatchResult r (λ _. SendsWhole old new) (λ _. SendsSome contents failures old new)

  -- a line that was put after what waited: at Some(n) all that waited was sent to the inner writer
  -- with the first n bytes of the line, and nothing waits; at a None a beginning of what waited was
  -- sent, and a write failed; the rest waits, without the line
  abbrev pub SendsLine : BufferedWriter W → BufferedWriter W → Text → Option ℕ → Type 0
  SendsLine old new line sent = MatchOption sent (SendsSome contents failures old new)
      (λ n. (0 < n) × (n ≤ length line) × (new.waiting ≡ []) ×
      (failures new.inner ≡ failures old.inner)
      × Appends (contents old.inner) (contents new.inner) (old.waiting ++ take n line))
