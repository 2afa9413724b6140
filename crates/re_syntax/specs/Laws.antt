-- What the definitions promise.
use Rattle.std.specs.Prelude.{◌≡◌, ◌≢◌, ℕ, Bool, List, ◌++◌, codes}
use Rattle.re_syntax.specs.declared.syntax.Syntax.{TheVariants.{Basic, Extended}, Syntax}
use Rattle.re_syntax.specs.{declared.fault.PatternFault.PatternFault, Brackets.IsBracket}
use Rattle.re_syntax.specs.{FirstFaults.{IsCut, IsFirstFault}, Tokens.Token, Spelled.IsSpelled}
use Rattle.re_syntax.specs.Working.StandardBasic.{IsStandardBasic}
use Rattle.re_syntax.specs.Working.StandardExtended.{IsStandardExtended}
use Rattle.re_trees.specs.Lines.{lines_of, ended_lines_of, list_of, AreLines, AreEndedLines}
use Rattle.re_trees.specs.{Lines.AreListed, Bytes.Text, Expression.Expression, Parts.AreParts}

-- a text spells at most one expression
abbrev pub SpellsOne : Text → Type 0
SpellsOne text =
    (syntax : Syntax) (d e : Expression) → IsSpelled syntax text d → IsSpelled syntax text e → d ≡ e

-- a text is cut into tokens in one way, or has one first fault, and never both; and each text that
-- is cut spells an expression
pub record HasOneCut (syntax : Syntax) (text : Text) : Type 0 where
  pub cuts : (ks ls : List Token) → IsCut syntax text ks → IsCut syntax text ls → ks ≡ ls
  pub faults : (f g : PatternFault) → IsFirstFault syntax text f → IsFirstFault syntax text g →
      f ≡ g
  pub never_both : (f : PatternFault) (ks : List Token) → IsFirstFault syntax text f →
      ¬ IsCut syntax text ks
  pub each : (ks : List Token) → IsCut syntax text ks → (e : Expression) × IsSpelled syntax text e

-- nowhere in the text does a comma follow a `{`
abbrev pub HasNoOpenComma : Text → Type 0
HasNoOpenComma text = (front back : Text) → text ≢ front ++ (codes "{," ++ back)

-- what the standard alone makes of a text is what it spells here: for every basic text, and for
-- every extended text without a `{,`
pub record KeepsStandard (text : Text) : Type 0 where
  pub basic : (e : Expression) → IsStandardBasic text e → IsSpelled Basic text e
  pub extended : (e : Expression) → IsStandardExtended text e → HasNoOpenComma text →
      IsSpelled Extended text e

-- a text begins with at most one bracket expression, and that has one meaning, whatever follows it
abbrev pub BeginsWithOneBracket : Text → Type 0
BeginsWithOneBracket text =
    (u v : Text) (d e : Expression) → IsBracket text u d → IsBracket text v e → (u ≡ v) × (d ≡ e)

-- an input has these lines and no others, also where only ended lines count, and a pattern list has
-- these texts and no others
pub record HasOneSplit (text : Text) : Type 0 where
  pub lines : AreLines text (lines_of text)
  pub no_other_lines : (ts : List Text) → AreLines text ts → ts ≡ lines_of text
  pub ended_lines : AreEndedLines text (ended_lines_of text)
  pub no_other_ended_lines : (ts : List Text) → AreEndedLines text ts → ts ≡ ended_lines_of text
  pub listed : AreListed text (list_of text)
  pub not_listed_otherwise : (ts : List Text) → AreListed text ts → ts ≡ list_of text

-- a line has one list of its parts
abbrev pub HasOnePartList : Text → Type 0
HasOnePartList line =
    (es : List Expression) (whole : Bool) →
    (ps : List (ℕ × ℕ)) × AreParts es line whole ps ×
    ((qs : List (ℕ × ℕ)) → AreParts es line whole qs → qs ≡ ps)
