-- Reading all patterns again, with another syntax or other options.
use Rattle.std.specs.Prelude.{◌≡◌, Result, Ok, Err, All}
use Rattle.{re_syntax.specs.declared.syntax.Syntax.Syntax, re_search.specs.Reading.IsReadable}
use Rattle.grep_core.specs.{declared.options.Options.Options, Files.Inputs}
use Rattle.grep_session.specs.declared.fault.EditFault.{EditFault, TheVariants.Memory}
use Rattle.grep_session.specs.Edits.{Reads}

-- the inputs with another syntax and other options
abbrev pub read_as : Syntax → Options → Inputs → Inputs
read_as syntax options old =
    record { syntax = syntax; options = options; patterns = old.patterns; files = old.files }

abbrev pub AreReadable : Syntax → Options → Inputs → Type 0
AreReadable syntax options old = All (IsReadable syntax options.ignore_case) old.patterns

abbrev pub ReadsAgain : {T : Type 0} → Syntax → Options → Inputs → Inputs → Result T EditFault →
    Type 0
ReadsAgain syntax options old new (Ok done) =
    Reads syntax options.ignore_case old.patterns (read_as syntax options old) (Ok new)
ReadsAgain syntax options old new (Err Memory) = new ≡ old
ReadsAgain syntax options old new (Err fault) =
    Reads syntax options.ignore_case old.patterns (read_as syntax options old) (Err fault) ×
    (new ≡ old)
