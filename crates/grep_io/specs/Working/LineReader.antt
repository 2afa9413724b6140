-- What a reader of lines is in contracts, and what a call for the next line does.
use Rattle.std.specs.Prelude.{◌≡◌, ◌≢◌, ℕ, ◌<◌, List, [], ◌∷◌, ◌++◌, length, Option}
use Rattle.std.specs.Io.KnownBytes.{prepend_known, Keeps, Consumes, IsAtEnd}
use Rattle.re_trees.specs.{Bytes.Text, Lines.{newline, HasNoNewline}}
use Rattle.grep_io.specs.declared.input.lines.Stage.{TheVariants.{Open, Ended, Failed}, Stage}
use Rattle.grep_io.specs.{Counted.one_more, Reading.{buffer_size, IsOneLineAndFew}}

pub record LineReader (R : Type 0) : Type 0 where
  pub reader : R
  -- the bytes taken from the reader less those of the lines handed out
  pub ahead : Text
  -- the line that the last call handed out, without its newline
  pub line : Text
  pub stage : Stage

module _ {R : Type 0} (remaining : R → Option Text) (failures : R → ℕ) where
  -- the bytes that are still to come, where they are known
  abbrev pub to_come : LineReader R → Option Text
  to_come lines = prepend_known lines.ahead (remaining lines.reader)

  -- what holds of every reader of lines: there may be another read, or nothing is to come, or after
  -- a failed read what is held ends no line
  abbrev pub IsStageOf : (R → Type 0) → Stage → Text → R → Type 0
  IsStageOf may_be_read Open ahead reader = may_be_read reader
  IsStageOf may_be_read Ended ahead reader = (ahead ≡ []) × IsAtEnd (remaining reader)
  IsStageOf may_be_read Failed ahead reader = HasNoNewline ahead

  -- the first of what was to come was a line and its newline, or all of it was a line without one
  abbrev pub IsLineOf : LineReader R → LineReader R → Stage → Type 0
  IsLineOf old new Open = Consumes (to_come old) (to_come new) (new.line ++ newline ∷ [])
  IsLineOf old new Ended =
      Consumes (to_come old) (to_come new) new.line × IsAtEnd (to_come new) × (new.line ≢ []) ×
      (new.ahead ≡ [])
  IsLineOf old new Failed = ⊥

  pub record HandsOut (old new : LineReader R) : Type 0 where
    pub was_open : old.stage ≡ Open
    pub no_newline : HasNoNewline new.line
    pub taken : IsLineOf old new new.stage
    pub few_held : length new.ahead < buffer_size
    pub none_failed : failures new.reader ≡ failures old.reader

  -- nothing was to come, and once that is known no more is asked of the reader
  pub record IsUsedUp (old new : LineReader R) : Type 0 where
    pub ended : new.stage ≡ Ended
    pub none_left : IsAtEnd (to_come new)
    pub kept : Keeps (to_come old) (to_come new)
    pub none_held : new.ahead ≡ []
    pub none_shown : new.line ≡ []
    pub none_failed : failures new.reader ≡ failures old.reader
    pub untouched : old.stage ≡ Ended → new.reader ≡ old.reader

  -- a read failed, in this call or before: no byte is lost, and what is held ends no line
  pub record IsCutOff (old new : LineReader R) : Type 0 where
    pub failed : new.stage ≡ Failed
    pub unfinished : HasNoNewline new.ahead
    pub kept : Keeps (to_come old) (to_come new)
    pub none_shown : new.line ≡ []
    pub counted : old.stage ≡ Open → failures new.reader ≡ one_more (failures old.reader)
    pub untouched : old.stage ≡ Failed → new.reader ≡ old.reader

  -- an allocation failed: nothing is lost, and the next call continues with the same line
  pub record RunsOutOfMemory (old new : LineReader R) : Type 0 where
    pub still_open : new.stage ≡ Open
    pub kept : Keeps (to_come old) (to_come new)
    pub few_held : IsOneLineAndFew new.ahead
    pub none_shown : new.line ≡ []
    pub none_failed : failures new.reader ≡ failures old.reader

-- one reader was returned, which had this left
abbrev pub OneLeft : Option Text → List (Option Text) → Type 0
OneLeft rest left = left ≡ rest ∷ []
