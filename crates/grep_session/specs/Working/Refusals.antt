-- Why edits are refused: for a pattern, for a place, or for a line.
use Rattle.std.specs.Prelude.{◌≡◌, ◌≢◌, ℕ, ◌⊎◌, Bool, List, [], Result, Ok, Err, All}
use Rattle.re_syntax.specs.{Lines.HasNoNewline, Bytes.Text}
use Rattle.re_syntax.specs.declared.fault.FaultKind.{TheVariants.Memory as OutOfMemory, FaultKind}
use Rattle.re_syntax.specs.declared.{fault.PatternFault.PatternFault, syntax.Syntax.Syntax}
use Rattle.grep_core.specs.{Files.{Inputs, File}, Matchers.IsFirstRefused}
use Rattle.grep_session.specs.Edits.{Splice, Applies, HasPlace}
use Rattle.grep_session.specs.declared.fault.EditFault.TheVariants.{Memory, LineHasNewline, Pattern}
use Rattle.grep_session.specs.declared.fault.EditFault.{EditFault}

-- the fault of an edit for a pattern's fault; out of memory is no fault of the pattern
abbrev pub reported_by : FaultKind → ℕ → PatternFault → EditFault
reported_by OutOfMemory place fault = Memory
reported_by _ place fault = Pattern place fault

abbrev pub reported_at : ℕ → PatternFault → EditFault
reported_at place fault = reported_by fault.kind place fault

-- memory ran out, or the fault of the first text that is not readable is reported
abbrev pub RefusesFirst : Syntax → Bool → List Text → EditFault → Type 0
RefusesFirst syntax fold texts reported =
    (reported ≡ Memory) ⊎
    ((place : ℕ) × (fault : PatternFault) × IsFirstRefused syntax fold texts place fault ×
    (reported ≡ Pattern place fault))

-- file `k` has the place, or a splice there is refused with this fault for any new lines
abbrev pub PlaceGives : {T : Type 0} → List File → ℕ → ℕ → ℕ → Result T EditFault → Type 0
PlaceGives files k start count (Ok done) = HasPlace files k start count
PlaceGives files k start count (Err fault) =
    (old : Inputs) (lines : List Text) → old.files ≡ files →
    Applies (Splice k start count lines) old (Err fault)

-- the lines, if none has a newline in it; else that is reported, and memory may run out only where
-- there is a line to copy
abbrev pub CopiesLines : List Text → Result (List Text) EditFault → Type 0
CopiesLines lines (Ok copies) = All HasNoNewline lines × (copies ≡ lines)
CopiesLines lines (Err LineHasNewline) = All HasNoNewline lines → ⊥
CopiesLines lines (Err Memory) = All HasNoNewline lines × (lines ≢ [])
CopiesLines lines (Err fault) = ⊥
