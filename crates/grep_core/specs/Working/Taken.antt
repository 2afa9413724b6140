-- What a call for the next line of a search does.
use Rattle.std.specs.Prelude.{◌≡◌, ℕ, List, [], ◌∷◌, ◌++◌, Option, None, Some, Result, Ok, Err}
use Rattle.{re_syntax.specs.Bytes.Text, grep_io.specs.Written.{GoesOut, StopsWithin}}
use Rattle.grep_io.specs.{Reading.{IsOneLineAndFew, HasRead, open_source}, File.{whole, broken}}
use Rattle.grep_io.specs.Working.Numbered.{Numbered, HasHanded, StandsAs}
use Rattle.grep_core.specs.declared.status.SearchFault.{SearchFault, TheVariants.{Write, Memory}}
use Rattle.grep_core.specs.declared.status.FileEnd.TheVariants.{Left, Whole, Broken, Missing}
use Rattle.grep_core.specs.declared.status.FileEnd.{FileEnd}

module _ {R W : Type 0} (remaining : R → Option Text) (failures : R → ℕ)
    (contents : W → Option Text) (write_failures : W → ℕ) (reader : R) (handed : List Text)
    (now : Numbered R) (old new : W) where
  -- after these lines a line was handed out, and little more is held; or they are all; or a read
  -- failed, or there is one more than can be numbered; or buffered output could not be sent before
  -- a read; or an allocation failed, and nothing is lost
  abbrev pub NextTaken : Result (Option FileEnd) SearchFault → Type 0
  NextTaken (Ok None) = HasHanded remaining failures reader now (handed ++ now.lines.line ∷ []) ×
      IsOneLineAndFew now.lines.ahead × GoesOut contents write_failures old new [] ×
      ((name : Text) →
      HasRead (open_source name (remaining reader)) (remaining now.lines.reader) handed)
  NextTaken (Ok (Some Whole)) = StandsAs remaining failures reader now handed whole ×
      GoesOut contents write_failures old new []
  NextTaken (Ok (Some Broken)) = StandsAs remaining failures reader now handed broken ×
      GoesOut contents write_failures old new []
  NextTaken (Ok (Some Missing)) = ⊥
  NextTaken (Ok (Some Left)) = ⊥
  NextTaken (Err Write) = HasHanded remaining failures reader now handed ×
      StopsWithin contents write_failures old new []
  NextTaken (Err (Memory n)) = HasHanded remaining failures reader now handed ×
      IsOneLineAndFew now.lines.ahead × (now.number ≡ n) ×
      GoesOut contents write_failures old new []
