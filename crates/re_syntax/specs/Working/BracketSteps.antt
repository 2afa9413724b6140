-- What each step of reading a bracket expression says: which part of the grammar is next to the
-- cursor, or that there is none and where that shows.
use Rattle.std.specs.Prelude.{◌≡◌, ◌≢◌, ℕ, ◌≤◌, ◌++◌, ◌⊎◌, drop, length, codes}
use Rattle.re_syntax.specs.{BracketFaults.ElementFault, declared.cursor.Cursor.Cursor}
use Rattle.re_syntax.specs.declared.fault.{FaultKind.FaultKind, PatternFault.PatternFault}
use Rattle.re_syntax.specs.declared.bracket.ListPlace.{TheVariants.{AfterPoint, First}, ListPlace}
use Rattle.re_syntax.specs.{Brackets.IsBracket, Faults.IsAt, Working.Cursors.{left, Passes}}
use Rattle.re_trees.specs.{Bytes.{Text, Begins}, Expression.Expression}

-- the cursor's text from a place on
abbrev pub from_place : ℕ → Cursor → Text
from_place at c = drop at c.text.now

-- the fault is in the cursor's text, at its place
abbrev pub Fails : (FaultKind → Text → Type 0) → Cursor → PatternFault → Type 0
Fails IsFault c = IsAt IsFault c.text.now

-- the place is in the cursor's text
abbrev pub IsIn : ℕ → Cursor → Type 0
IsIn at c = at ≤ length c.text.now

-- a hyphen is at the place, and the cursor directly after it
abbrev pub IsHyphenBefore : ℕ → Cursor → Type 0
IsHyphenBefore at c = from_place at c ≡ codes "-" ++ left c

-- no `[` before a `:` or `=`, which would open a class
pub record OpensNoClass (t : Text) : Type 0 where
  pub class : ¬ Begins (codes "[:") t
  pub equivalence : ¬ Begins (codes "[=") t

-- an element may be next: no bracket closes the list, and after a point a hyphen is only the last
pub record MayGoOn (p : ListPlace) (t : Text) : Type 0 where
  pub bracket : Begins (codes "]") t → p ≡ First
  pub hyphen : Begins (codes "-") t → (p ≢ AfterPoint) ⊎ Begins (codes "-]") t

-- the cursor moved past a hyphen, at this place, that is not the last of its list
pub record PassesHyphen (old new : Cursor) (at : ℕ) : Type 0 where
  pub passes : Passes (codes "-") old new
  pub not_last : ¬ Begins (codes "-]") (left old)
  pub place : at ≡ old.at

-- the fault of two hyphens, of which the first may begin no range, before what the cursor has left
abbrev pub IsStray : ℕ → Cursor → PatternFault → Type 0
IsStray opening c fault = (p : ListPlace) → p ≢ First → ¬ Begins (codes "]") (left c) →
    Fails (ElementFault (from_place opening c) p (codes "--" ++ left c)) c fault

-- a bracket expression of the text, from one place up to another, and what it means
pub record IsBracketUpTo (text : Text) (from beyond : ℕ) (e : Expression) : Type 0 where
  pub within : beyond ≤ length text
  pub stands : IsBracket (drop from text) (drop beyond text) e
