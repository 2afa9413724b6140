-- The hits of some lines of a file of a session.
use Rattle.std.specs.Prelude.{◌≡◌, ℕ, ◌+◌, ◌<◌, List, ◌∷◌, slice_range, take}
use Rattle.re_syntax.specs.{Bytes.Text, Expression.Expression}
use Rattle.{re_search.specs.Working.Blocks.HoldsOfMany, grep_core.specs.Files.{Inputs, Selected}}
use Rattle.{grep_core.specs.Run.file_at, grep_live.specs.Hits.{Hit, HitsFrom}}

module _ (es : List Expression) (inputs : Inputs) (k : ℕ) where
  -- the hits among the lines of file k from place `from` to place `to`
  abbrev pub HitsBetween : ℕ → ℕ → List Hit → Type 0
  HitsBetween from to hits =
      HitsFrom es inputs.options from (slice_range (file_at inputs.files k).lines from to) hits

  -- the first of some hits, and those after it, among the lines up to place `to`
  pub record IsFirst (to place : ℕ) (text : Text) (parts : List (ℕ × ℕ))
      (hits : List Hit) : Type 0 where
    pub rest : List Hit
    pub are_rest : HitsBetween (place + 1) to rest
    pub joined : hits ≡ record { place = place; text = text; parts = parts } ∷ rest

  -- so many lines before a place are selected
  abbrev pub SelectedBefore : ℕ → ℕ → Type 0
  SelectedBefore place number =
      HoldsOfMany (Selected es inputs.options) (take place (file_at inputs.files k).lines) number

  -- the least place before which there is this number of hits
  pub record IsPlaceAfter (number place : ℕ) : Type 0 where
    pub counted : SelectedBefore place number
    pub least : (other fewer : ℕ) → other < place → SelectedBefore other fewer → fewer < number
