-- A fault of a pattern's text, at its place.
use Rattle.std.specs.Prelude.{◌≡◌, ◌≤◌, length, drop}
use Rattle.re_syntax.specs.declared.fault.FaultKind.{FaultKind, TheVariants.Memory}
use Rattle.{re_syntax.specs.declared.fault.PatternFault.PatternFault, re_trees.specs.Bytes.Text}

-- what is said of the fault's kind, and of the text from its place on, holds
pub record IsAt (IsFault : FaultKind → Text → Type 0) (text : Text)
    (fault : PatternFault) : Type 0 where
  pub within : fault.at ≤ length text
  pub is_fault : IsFault fault.kind (drop fault.at text)

-- out of memory; this says nothing of the text
abbrev pub IsOutOfMemory : PatternFault → Type 0
IsOutOfMemory fault = fault ≡ record { kind = Memory; at = 0 }
