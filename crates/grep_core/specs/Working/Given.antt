-- What a search of the lines of a source returns.
use Rattle.std.specs.Prelude.{ℕ, Bool, List, Option, Result, Ok, Err}
use Rattle.{re_syntax.specs.{Bytes.Text, Expression.Expression}, re_search.specs.Meters.Steps}
use Rattle.{grep_io.specs.Reading.Source, grep_core.specs.Run.Writer}
use Rattle.grep_core.specs.Working.Searched.{BreaksSource, SearchesSource, StopsSource}
use Rattle.grep_core.specs.declared.status.SearchFault.{TheVariants.{Write, Memory}, SearchFault}
use Rattle.grep_core.specs.declared.{status.FileFound.FileFound, options.Options.Options}

module _ (es : List Expression) (options : Options) (many shown : Bool) (source : Source)
    (given : List (Option Text) → Type 0) (failed_before failed : ℕ) (old new : Writer)
    (began ended : Steps) where
  -- the source was searched; or a write failed; or an allocation failed after n lines
  abbrev pub SearchGives : Result FileFound SearchFault → Type 0
  SearchGives (Ok found) = SearchesSource es options many shown source given failed_before failed
      old new began ended found.end found.selected
  SearchGives (Err Write) = BreaksSource es options many shown source given failed_before failed
      old new began ended
  SearchGives (Err (Memory n)) = StopsSource es options many shown source given n failed_before
      failed old new began ended
