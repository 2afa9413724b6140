-- Why a pattern is not read.
use Rattle.grep_session.proofs.Prelude.{◌≡◌, ℕ, List, ◌⊎◌, inl, inr, refl, ◌∙◌, Bool, FaultKind, UnclosedBracket, BadClass, BadCollatingSymbol, BadRange, UnclosedGroup, UnopenedGroup, BadInterval, IntervalTooLarge, NothingToRepeat, TrailingBackslash, UndefinedEscape, BackReference, TooDeep, TooLarge, PatternFault, Syntax, Text, IsOutOfMemory, IsFirstRefused, EditFault, Pattern, Memory, RefusesFirst, reported_by, reported_at}
use Rattle.re_syntax.specs.declared.fault.FaultKind.TheVariants.{Memory as OutOfMemory}

-- a kind of fault is out of memory, or one of the pattern
reported_either : (kind : FaultKind) {place : ℕ} {fault : PatternFault} → (reported_by kind place fault ≡ Memory) ⊎ (reported_by kind place fault ≡ Pattern place fault)
reported_either UnclosedBracket = inr refl
reported_either BadClass = inr refl
reported_either BadCollatingSymbol = inr refl
reported_either BadRange = inr refl
reported_either UnclosedGroup = inr refl
reported_either UnopenedGroup = inr refl
reported_either BadInterval = inr refl
reported_either IntervalTooLarge = inr refl
reported_either NothingToRepeat = inr refl
reported_either TrailingBackslash = inr refl
reported_either UndefinedEscape = inr refl
reported_either BackReference = inr refl
reported_either TooDeep = inr refl
reported_either TooLarge = inr refl
reported_either OutOfMemory = inl refl

-- the next is refused, or memory ran out
pub reported_refused : {syntax : Syntax} {fold : Bool} {texts : List Text} (place : ℕ) {fault : PatternFault} {reported : EditFault} → reported ≡ reported_at place fault → IsOutOfMemory fault ⊎ IsFirstRefused syntax fold texts place fault
    → RefusesFirst syntax fold texts reported
reported_refused place e (inl memory) = inl cc
reported_refused place {fault} e (inr first) =
    elim (reported_either _) [
      | inl memory ↦ inl (e ∙ memory)
      | inr pattern ↦ inr (place, fault, first, e ∙ pattern)
    ]
