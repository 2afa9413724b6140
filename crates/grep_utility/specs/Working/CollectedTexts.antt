-- How patterns are buffered: one after the other, each followed by a newline.
use Rattle.std.specs.Prelude.{All, if◌then◌else◌, Bool, ◌++◌, Ok, List, ℕ, ◌≡◌, Option}
use Rattle.re_syntax.specs.{Bytes.Text, Lines.{terminated, HasNoNewline}}
use Rattle.grep_core.specs.{Files.{whole, broken}, Run.count_more, Working.Handed.StandsFor}
use Rattle.grep_core.specs.Messages.{read_error, cannot_open}
use Rattle.grep_utility.specs.declared.prepare.CommandFault.TheVariants.{Missing, Broken, Memory}
use Rattle.grep_utility.specs.{declared.prepare.CommandFault.CommandFault, Words.PatternsFrom}
use Rattle.grep_utility.specs.{Patterns.{Unread, GivesPatterns}, Folder.{Folder, display_name}}

-- these patterns were added
pub record Adds (old new : Text) (texts : List Text) : Type 0 where
  pub bytes : new ≡ old ++ terminated texts
  pub no_newlines : All HasNoNewline texts

-- the lines of a reader were added, which has this left, and whether these are all
pub record AddsLines (known rest : Option Text) (failed_before failed : ℕ) (old new : Text)
    (all : Bool) : Type 0 where
  pub texts : List Text
  pub adds : Adds old new texts
  pub stands : (name : Text) →
      StandsFor name known rest failed_before failed texts (if all then whole else broken)

abbrev pub AddsSource : Folder → PatternsFrom → Text → Text → Type 0
AddsSource folder source old new =
    (texts : List Text) × GivesPatterns folder source (Ok texts) × Adds old new texts

-- reading stops, by this law, at a file that is not read; or it is out of memory, and no read
-- failed
module _ (Stops : Unread → Type 0) (failed_before failed : ℕ) where
  abbrev pub StopsBy : Text → Type 0
  StopsBy message =
      (n : ℕ) × Stops (record { message = message; failures = n }) ×
      (failed ≡ count_more failed_before n)

  abbrev pub StopsFor : CommandFault → Type 0
  StopsFor (Missing word) = StopsBy (cannot_open (display_name word.now))
  StopsFor (Broken word) = StopsBy (read_error (display_name word.now))
  StopsFor Memory = failed ≡ failed_before
  StopsFor _ = ⊥
