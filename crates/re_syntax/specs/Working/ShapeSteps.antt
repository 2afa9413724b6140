-- What the shape of a text says of it, up to a place.
use Rattle.std.specs.Prelude.{◌≡◌, ℕ, ◌+◌, ◌≤◌, List, ◌++◌, length, drop}
use Rattle.re_syntax.specs.{Profile.most_levels, Tokens.Token, FirstFaults.{start, Cut, Context}}
use Rattle.re_syntax.specs.FirstFaults.{Around, FirstFault, after, IsCut, IsTooDeep, IsFirstFault}
use Rattle.re_syntax.specs.Working.Builds.{rest_positions, build_all, Frame, nothing_built}
use Rattle.re_syntax.specs.Working.Builds.{level_positions, Built, last_positions, build}
use Rattle.re_syntax.specs.Working.{Counted.up_to_word, Mirrors.Mirrors}
use Rattle.re_syntax.specs.declared.fault.FaultKind.{FaultKind, TheVariants.TooDeep}
use Rattle.re_syntax.specs.declared.{fault.PatternFault.PatternFault, syntax.Syntax.Syntax}
use Rattle.re_syntax.specs.declared.shape.{Shape.Shape, OpenGroup.OpenGroup}
use Rattle.re_trees.specs.{Holds.positions, Expression.cat, Bytes.Text}

-- a group that is open is one around a place of the text, and within the limit
pub record IsAround (text : Text) (before : List OpenGroup) (group : OpenGroup)
    (a : Around) : Type 0 where
  pub is : a ≡ record { from = drop group.opening text; height = group.height }
  pub within : group.opening ≤ length text
  pub fits : group.height + length before ≤ most_levels

-- the heights are within the limit
pub record IsBounded (shape : Shape) : Type 0 where
  pub last_fits : shape.last + length shape.groups.items ≤ most_levels
  pub height_fits : shape.height + length shape.groups.items ≤ most_levels

-- the shape is what is known at a place of the text
pub record Shows (text : Text) (shape : Shape) (c : Context) : Type 0 where
  pub place_is : shape.place ≡ c.place
  pub last_is : shape.last ≡ c.last
  pub height_is : shape.height ≡ c.height
  pub around : Mirrors (IsAround text) shape.groups.items c.around
  pub bounded : IsBounded shape

-- the group has the number of positions of the level around it
abbrev pub IsCounted : List OpenGroup → OpenGroup → Frame → Type 0
IsCounted before group l = group.positions ≡ up_to_word (level_positions l)

-- the shape has the numbers of positions of what is built
pub record Counts (shape : Shape) (b : Built) : Type 0 where
  pub before : shape.before ≡
      up_to_word (positions (cat b.level.branches) + rest_positions b.level.items)
  pub item : shape.item ≡ up_to_word (last_positions b.level.items)
  pub around : Mirrors IsCounted shape.groups.items b.outer

-- a token was taken, which begins at a place of every text that the shape shows
pub record Takes (k : Token) (at : ℕ) (old new : Shape) : Type 0 where
  pub shows : (text : Text) (c : Context) → at ≤ length text → Shows text old c →
      (¬ IsTooDeep c k) × Shows text new (after (drop at text) k c)
  pub counts : (b : Built) → Counts old b → Counts new (build k b)

-- a token goes too deep
pub record Refuses (k : Token) (at : ℕ) (old : Shape) (fault : PatternFault) : Type 0 where
  pub fault_is : fault ≡ record { kind = TooDeep; at = at }
  pub deep : (text : Text) (c : Context) → Shows text old c → IsTooDeep c k

-- the text was cut into these tokens up to a place, and the shape is what is known there
pub record Reaches (syntax : Syntax) (text : Text) (at : ℕ) (shape : Shape)
    (done : List Token) : Type 0 where
  pub within : at ≤ length text
  pub context : Context
  pub shows : Shows text shape context
  pub cut : (ks : List Token) → Cut syntax context (drop at text) ks →
      IsCut syntax text (done ++ ks)
  pub fault : (kind : FaultKind) (from : Text) →
      FirstFault syntax context (drop at text) kind from → FirstFault syntax start text kind from
  pub counts : Counts shape (build_all done nothing_built)

-- the text's end was reached: the tokens are a whole cut, with so many positions
pub record Ends (shape : Shape) (count : ℕ) : Type 0 where
  pub ends : (syntax : Syntax) (text : Text) (done : List Token) →
      Reaches syntax text (length text) shape done → IsCut syntax text done ×
      (count ≡ up_to_word (level_positions (build_all done nothing_built).level))

-- the text's end was reached in a group
pub record EndsOpen (shape : Shape) (fault : PatternFault) : Type 0 where
  pub ends : (syntax : Syntax) (text : Text) (done : List Token) →
      Reaches syntax text (length text) shape done → IsFirstFault syntax text fault
