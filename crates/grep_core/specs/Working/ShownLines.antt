-- What is written at a line where lines around selected ones are shown, and what is kept of it.
use Rattle.std.specs.Prelude.{◌≡◌, ℕ, Bool, if◌then◌else◌, [], ◌∷◌, ◌++◌, Result, Ok, Err}
use Rattle.re_syntax.specs.Bytes.{Text}
use Rattle.grep_core.specs.declared.status.SearchFault.{TheVariants.{Write, Memory}, SearchFault}
use Rattle.grep_core.specs.declared.{options.Options.Options, output.around.Progress.Progress}
use Rattle.grep_core.specs.Working.Progress.{next_shown, after_line, last_of, rows_at}
use Rattle.grep_core.specs.{Working.LastLines.LastLines, Run.{Writer, TakesAll, TakesFront}}
use Rattle.grep_io.specs.Counted.{one_more}

module _ (options : Options) (many : Bool) (name : Text) (selected : Bool) (number : ℕ)
    (line : Text) where
  -- what is shown at the line was written, and it is held if it is not shown
  pub record ShowsLine (before after : Progress) (recent held : LastLines)
      (old new : Writer) : Type 0 where
    pub wrote : TakesAll old new (rows_at options many name selected (next_shown before selected)
        recent.lines number line)
    pub goes_on : after ≡ after_line before selected
    pub holds : held.lines ≡ (if (next_shown before selected).itself then []
        else last_of recent.limit (recent.lines ++ line ∷ []))
    pub same_limit : held.limit ≡ recent.limit

  -- a beginning of it was written, and a write failed
  pub record BreaksShown (before : Progress) (recent : LastLines) (old new : Writer) : Type 0 where
    pub wrote : TakesFront old new (rows_at options many name selected
        (next_shown before selected) recent.lines number line)
    pub counted : new.failures ≡ one_more old.failures

  -- why a line is not done: a write failed, or what is shown was written and the line could not be
  -- held
  abbrev pub ShowStops : Progress → LastLines → Writer → Writer → SearchFault → Type 0
  ShowStops before recent old new Write = BreaksShown before recent old new
  ShowStops before recent old new (Memory n) = (number ≡ n) ×
      TakesAll old new (rows_at options many name selected (next_shown before selected)
      recent.lines number line)

  abbrev pub ShowGives : {T : Type 0} → Progress → Progress → LastLines → LastLines → Writer →
      Writer → Result T SearchFault → Type 0
  ShowGives before after recent held old new (Ok v) = ShowsLine before after recent held old new
  ShowGives before after recent held old new (Err fault) = ShowStops before recent old new fault
