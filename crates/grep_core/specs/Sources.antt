-- The sources of a run, each opened once and read from front to back.
use Rattle.std.specs.Prelude.{◌≡◌, ℕ, true, false, List, [], ◌++◌, get_or, Option, None}
use Rattle.std.specs.Prelude.{MatchOption, IfSome}
use Rattle.{re_syntax.specs.Bytes.Text, grep_io.specs.{Counted.one_more, Reading.Source}}

-- source k, which is there
abbrev pub source_at : List Source → ℕ → Source
source_at sources k = get_or sources k (record { name = []; opens = None; bytes = None })

-- what an attempt to open a source returns, with how many failures of sources were counted before
-- and after it: no reader is one more failure; a reader gives the source's bytes from the first on,
-- and nothing of it has failed
abbrev pub Opens : {R : Type 0} → (R → Option Text) → (R → ℕ) → Source → ℕ → ℕ → Option R → Type 0
Opens remaining failures source before after answer =
    MatchOption answer (IfSome source.opens (λ b. b ≡ false) × (after ≡ one_more before))
    (λ reader. IfSome source.opens (λ b. b ≡ true) × (remaining reader ≡ source.bytes) ×
    (failures reader ≡ 0) × (after ≡ before))

-- between the two states, readers that had these bytes left were returned, in this order
abbrev pub Returns : {S : Type 0} → (S → List (Option Text) → Type 0) → S → S →
    List (Option Text) → Type 0
Returns returned_readers old new left =
    (before : List (Option Text)) → returned_readers old before → returned_readers new (before ++ left)
