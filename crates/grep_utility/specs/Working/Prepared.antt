-- A command before its search: its patterns are read, or it ends.
use Rattle.std.specs.Prelude.{◌≡◌, ℕ, nat_lt, ◌<◌, ◌-◌, ◌^◌, true, false, List, length, ⊤}
use Rattle.re_syntax.specs.{Bytes.Text, Profile.most_patterns}
use Rattle.re_search.specs.declared.matcher.Matcher.{Matcher}
use Rattle.grep_core.specs.{Matchers.IsFirstRefused, Messages.{read_error, cannot_open}}
use Rattle.grep_utility.specs.Working.{CollectedTexts.StopsFor, ServingMatchers.ServeFor}
use Rattle.grep_utility.specs.Texts.{too_many_patterns, out_of_memory, pattern_refused}
use Rattle.grep_utility.specs.Patterns.{folder_after_all, GivePatterns, FirstUnread}
use Rattle.grep_utility.specs.Folder.{Folder, display_name}
use Rattle.grep_utility.specs.declared.prepare.CommandFault.TheVariants.{Memory, Broken, Refused}
use Rattle.grep_utility.specs.declared.prepare.CommandFault.TheVariants.{Missing, TooMany}
use Rattle.grep_utility.specs.{declared.prepare.CommandFault.CommandFault, Words.Asked}

module _ (asked : Asked) (folder : Folder) where
  -- the patterns are read, and these matchers serve for them; `after` is then known of the files
  pub record IsPrepared (after : Folder) (matchers : List Matcher) : Type 0 where
    pub texts : List Text
    pub are_texts : GivePatterns folder asked.sources texts
    pub few : nat_lt most_patterns (length texts) ≡ false
    pub serve : ServeFor asked.syntax asked.options texts matchers
    pub used : after ≡ folder_after_all folder asked.sources

  -- the fault that ends the command, and how often devices of files had failed before and after
  abbrev pub IsDue : ℕ → ℕ → CommandFault → Type 0
  IsDue before after TooMany =
      (texts : List Text) × GivePatterns folder asked.sources texts
      × (nat_lt most_patterns (length texts) ≡ true) × (after ≡ before)
  IsDue before after (Refused place fault) =
      (texts : List Text) × GivePatterns folder asked.sources texts
      × (nat_lt most_patterns (length texts) ≡ false)
      × IsFirstRefused asked.syntax asked.options.ignore_case texts place fault × (after ≡ before)
  IsDue before after fault = StopsFor (FirstUnread folder asked.sources) before after fault

-- the number of a refused pattern can be written
abbrev pub HasNumber : CommandFault → Type 0
HasNumber (Refused place fault) = place < 2 ^ 64 - 1
HasNumber _ = ⊤

-- the line that reports the fault
abbrev pub due_text : CommandFault → Text
due_text (Missing word) = cannot_open (display_name word.now)
due_text (Broken word) = read_error (display_name word.now)
due_text Memory = out_of_memory
due_text TooMany = too_many_patterns
due_text (Refused place fault) = pattern_refused place fault
