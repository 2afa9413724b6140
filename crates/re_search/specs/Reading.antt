-- Which texts are patterns of a syntax, and why others are refused (XCU grep, OPTIONS -E, -F, -i).
use Rattle.std.specs.Prelude.{◌≡◌, ◌<◌, ◌≤◌, Bool, IsTrue, ◌⊎◌}
use Rattle.re_syntax.specs.declared.{syntax.Syntax.Syntax, fault.FaultKind.TheVariants.TooLarge}
use Rattle.re_syntax.specs.{declared.fault.PatternFault.PatternFault, Bytes.Text}
use Rattle.re_syntax.specs.{Expression.Expression, FirstFaults.IsFirstFault, Holds.positions}
use Rattle.re_syntax.specs.{Profile.most_positions, Spelled.{IsMeant, has_limit}}
pub use Rattle.re_syntax.specs.Faults.{IsOutOfMemory}

-- the expression is small enough, if it has to be
abbrev pub IsSmallFor : Syntax → Bool → Expression → Type 0
IsSmallFor syntax fold e = IsTrue (has_limit syntax fold) → positions e ≤ most_positions

-- the text means an expression that is small enough
abbrev pub IsReadable : Syntax → Bool → Text → Type 0
IsReadable syntax fold text =
    (e : Expression) × IsMeant syntax fold text e × IsSmallFor syntax fold e

-- the text means an expression that is too large
pub record IsTooLarge (syntax : Syntax) (fold : Bool) (text : Text)
    (fault : PatternFault) : Type 0 where
  pub reported : fault ≡ record { kind = TooLarge; at = 0 }
  pub limited : IsTrue (has_limit syntax fold)
  pub meaning : Expression
  pub meant : IsMeant syntax fold text meaning
  pub large : most_positions < positions meaning

-- why a text is refused if there is memory
abbrev pub IsRefusedFor : Syntax → Bool → Text → PatternFault → Type 0
IsRefusedFor syntax fold text fault =
    IsFirstFault syntax text fault ⊎ IsTooLarge syntax fold text fault
