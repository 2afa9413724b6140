-- What a matcher says of the next part of a line, and the steps that it takes to say so.
use Rattle.std.specs.Prelude.{ℕ, ◌+◌, ◌-◌, ◌^◌, ◌≤◌, false, [], ◌∷◌, min, length}
use Rattle.re_trees.specs.{Expression.Expression, Parts.{IsPart, IsFound}, Bytes.Text}
use Rattle.re_auto.specs.Working.{Tables.Marks, Positions.part_of}
use Rattle.re_meter.specs.Meters.{AddsAtMost, Steps, AddsUpTo}
use Rattle.re_ends.specs.{Working.GreatestEnds.IsBorder, declared.table.Window.Window}
use Rattle.re_match.specs.declared.ahead.Ahead.{Ahead, TheVariants.{Part, In, Nothing}}
use Rattle.re_match.specs.declared.window.Edges.{Edges}

-- no match goes over the end of the stretch
abbrev pub IsWindowOf : Expression → Text → Window → Type 0
IsWindowOf e line window = (window.start ≤ window.end) × IsBorder e line window.end

-- each part that begins at `from` or later begins at `start` or later
abbrev pub BeginsLater : Expression → Text → ℕ → ℕ → Type 0
BeginsLater e line from start =
    (from ≤ start) × ((i j : ℕ) → IsFound (e ∷ []) line false from i j → start ≤ i)

-- this is the next part; or none begins before the stretch; or none begins any more
abbrev pub IsAhead : Expression → Text → ℕ → Ahead → Type 0
IsAhead e line from (Part part) = IsPart (e ∷ []) line false from part.start part.end
IsAhead e line from (In window) = BeginsLater e line from window.start × IsWindowOf e line window
IsAhead e line from Nothing = (i j : ℕ) → ¬ IsFound (e ∷ []) line false from i j

-- the place after the byte that ends a stretch, or the line's end
abbrev pub past : Text → ℕ → ℕ
past line end = min (end + 1) (length line)

-- each byte up to the part's end, or up to the line's end, is at most a step, and passed at most once;
-- those of a stretch aren't steps yet
abbrev pub CountsUpTo : Text → ℕ → Steps → Steps → Ahead → Type 0
CountsUpTo line from before after (Part part) = AddsAtMost (part.end - from) before after
CountsUpTo line from before after (In window) =
    AddsUpTo (window.start - from) (past line window.end - from) before after
CountsUpTo line from before after Nothing = AddsAtMost (length line - from) before after

-- where the part or the stretch begins; the line's end if there is none
abbrev pub begins_at : Text → Ahead → ℕ
begins_at line (Part part) = part.start
begins_at line (In window) = window.start
begins_at line Nothing = length line

-- at least so many bytes were passed
abbrev pub PassesAtLeast : ℕ → Steps → Steps → Type 0
PassesAtLeast least old new = min (old.passed + least) (2 ^ 64 - 1) ≤ new.passed

-- and those before it are passed
pub record CountsAhead (line : Text) (from : ℕ) (before after : Steps)
    (ahead : Ahead) : Type 0 where
  pub few : CountsUpTo line from before after ahead
  pub all : PassesAtLeast (begins_at line ahead - from) before after

-- both
abbrev pub IsSaid : Expression → Text → ℕ → Steps → Steps → Ahead → Type 0
IsSaid e line from before after ahead =
    IsAhead e line from ahead × CountsAhead line from before after ahead

-- the bytes that positions take are marked
abbrev pub AreEdgesFor : Expression → Edges → Type 0
AreEdgesFor e edges = Marks edges.bytes (λ c. (q : ℕ) × (part_of e 0).takes q c)
