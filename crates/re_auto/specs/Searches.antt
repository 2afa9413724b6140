-- What a search of a line finds, and how much work it takes.
use Rattle.std.specs.Prelude.{ℕ, Bool, List, Option, MatchOption, Any}
use Rattle.re_trees.specs.{Parts.{IsFound, IsPart}, declared.span.Span.Span, Expression.Expression}
use Rattle.re_trees.specs.{Holds.Matches, Bytes.Text}
pub use Rattle.re_meter.specs.Meters.{AddsAtMost}

-- the span is the next part of the line for these expressions (XBD 9.1); None says that there is
-- none
abbrev pub FindsPart : List Expression → Text → Bool → ℕ → Option Span → Type 0
FindsPart es line whole from found =
    MatchOption found ((i j : ℕ) → ¬ IsFound es line whole from i j)
    (λ span. IsPart es line whole from span.start span.end)

-- some expression matches the line, which is then selected (XCU grep)
abbrev pub SomeMatches : List Expression → Text → Bool → Type 0
SomeMatches es line whole = Any (λ e. Matches e line whole) es
