-- What one read or one write of a device does to the known bytes, and how failures are counted.
use Rattle.std.specs.Prelude.{◌≡◌, ℕ, zero, suc, ◌+◌, ◌-◌, ◌<◌, ◌^◌, min, List, [], ◌∷◌, ◌++◌, take}
use Rattle.std.specs.Prelude.{Option, Some, None, MatchOption, IfSome, Result, Ok, Err}
use Rattle.std.specs.Io.KnownBytes.{Keeps, Appends, Consumes, IsAtEnd}
use Rattle.re_trees.specs.Bytes.{Text}

-- one more failure, by a count that stays at the greatest u64
abbrev pub one_more : ℕ → ℕ
one_more n = min (n + 1) (2 ^ 64 - 1)

-- a count of n with more failures, which stays at the greatest u64
abbrev pub count_more : ℕ → ℕ → ℕ
count_more n zero = n
count_more n (suc more) = one_more (count_more n more)

-- what a read into `into` did to the bytes that the reader has left: the n bytes that it gave were
-- the first of them, none only where no byte is left, and a failure gave none
abbrev pub PullConsumes : Option Text → Option Text → Option ℕ → Text → Type 0
PullConsumes old new given into =
    MatchOption given (Keeps old new) (λ n. Consumes old new (take n into) × (n ≡ 0 → IsAtEnd new))

-- what a write of `from` did to the bytes that the writer holds: it appended the n bytes that it
-- took, and a failure appended none
abbrev pub PushAppends : Option Text → Option Text → Option ℕ → Text → Type 0
PushAppends old new taken from =
    MatchOption taken (Keeps old new) (λ n. Appends old new (take n from))

-- a None is a failure and is counted, and nothing else is
abbrev pub Counts : ℕ → ℕ → Option ℕ → Type 0
Counts old new answer = MatchOption answer (new ≡ one_more old) (λ _. new ≡ old)

-- a device and how many of its calls have failed
pub record Tallied (T : Type 0) : Type 0 where
  pub device : T
  pub failed : ℕ

-- one call more was made, with this answer
abbrev pub CalledOnce : {D : Type 0} → (D → List (Option ℕ) → Type 0) → D → D → Option ℕ → Type 0
CalledOnce calls old new answer =
    (made : List (Option ℕ)) → calls old made → calls new (made ++ answer ∷ [])

-- the answer of a call that sends what is buffered
abbrev pub sent_or_not : {T E : Type 0} → Result T E → Option ℕ
sent_or_not (Ok done) = Some 0
sent_or_not (Err fault) = None

-- after a read that gave bytes there may be another
abbrev pub ReadsOn : {R : Type 0} → (R → Type 0) → R → Option ℕ → Type 0
ReadsOn may_be_read new given = IfSome given (λ n. 0 < n → may_be_read new)
