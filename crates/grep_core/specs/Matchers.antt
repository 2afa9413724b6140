-- How many patterns there may be, and the first pattern that is none.
use Rattle.std.specs.Prelude.{ℕ, ◌<◌, Bool, List, [], length, take, get_or, All}
use Rattle.re_syntax.specs.declared.{fault.PatternFault.PatternFault, syntax.Syntax.Syntax}
use Rattle.{re_syntax.specs.Bytes.Text, re_search.specs.Reading.{IsReadable, IsRefusedFor}}

-- the first pattern that is not readable, and what shows it
pub record IsFirstRefused (syntax : Syntax) (fold : Bool) (texts : List Text) (place : ℕ)
    (fault : PatternFault) : Type 0 where
  pub in_texts : place < length texts
  pub readable_before : All (IsReadable syntax fold) (take place texts)
  pub unreadable : IsReadable syntax fold (get_or texts place []) → ⊥
  pub shown : IsRefusedFor syntax fold (get_or texts place []) fault
