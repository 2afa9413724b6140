-- Sets of positions, stepped over a line one byte at a time.
use Rattle.std.specs.Prelude.{ℕ, ⊤, Bool, IsTrue, ◌⊎◌, ◌↔◌}
use Rattle.{re_trees.specs.Bytes.Text, re_auto.specs.Working.Positions.{Reaches, Part, is_begin}}
use Rattle.re_auto.specs.declared.mode.Mode.{TheVariants.{Search, Whole}, Mode}

-- whether a stretch may begin at a place, by whether that is the line's first
abbrev pub MayBegin : Mode → Bool → Type 0
MayBegin Search begin = ⊤
MayBegin Whole begin = IsTrue begin

-- the set holds the positions to which stretches of the mode can have come at place j
abbrev pub IsAfter : Part → Mode → Text → ℕ → (ℕ → Type 0) → Type 0
IsAfter part mode line j S =
    (q : ℕ) → S q ↔ ((i : ℕ) × MayBegin mode (is_begin i) × Reaches part line i j q)

-- the second set is the first one after this byte; `begin` says that the byte is the line's first
abbrev pub IsNext : Part → Mode → Bool → (ℕ → Type 0) → ℕ → (ℕ → Type 0) → Type 0
IsNext part mode begin S c T =
    (q : ℕ) →
    T q ↔
    (part.takes q c ×
    (MayBegin mode begin × part.first begin q ⊎ ((p : ℕ) × S p × part.follow p q)))

-- some stretch of the mode ends here and is matched
abbrev pub Accepts : Part → Mode → Bool → Bool → (ℕ → Type 0) → Type 0
Accepts part mode begin end S =
    MayBegin mode begin × part.empty begin end ⊎ ((q : ℕ) × S q × part.last end q)
