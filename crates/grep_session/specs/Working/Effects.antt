-- How an option affects what is kept.
use Rattle.std.specs.Prelude.{◌≡◌, Bool, true, false, IsTrue, length}
use Rattle.grep_core.specs.declared.options.{Flag.{Flag, TheVariants.OnlyMatching}, Options.Options}
use Rattle.grep_core.specs.{Files.Inputs, Options.with_option}
use Rattle.grep_session.specs.declared.options.Effect.TheVariants.{Verdicts, Parts, Hits, Output}
use Rattle.grep_session.specs.{declared.options.Effect.Effect, Marks.changes_hits}
use Rattle.grep_session.specs.Touched.{touched_by_flag, searched_by, all_lines, is_of_output}

-- a new value of the option may change which lines are matched
pub record ChangesVerdicts (flag : Flag) : Type 0 where
  pub touches : (old : Inputs) →
      touched_by_flag flag old ≡ searched_by (length old.patterns) (all_lines old)
  pub no_output : is_of_output flag → ⊥
  pub no_parts : flag ≡ OnlyMatching → ⊥
  pub changes : changes_hits flag ≡ true

-- what is kept stays valid when the option is set to this value
pub record KeepsAll (flag : Flag) (on : Bool) : Type 0 where
  pub same_whole : (options : Options) →
      (with_option flag on options).line_regexp ≡ options.line_regexp
  pub same_case : (options : Options) →
      (with_option flag on options).ignore_case ≡ options.ignore_case
  pub no_parts : (options : Options) → IsTrue (with_option flag on options).only_matching →
      IsTrue options.only_matching

abbrev pub HasEffect : Flag → Bool → Effect → Type 0
HasEffect flag on Verdicts = ChangesVerdicts flag
HasEffect flag on Parts = (flag ≡ OnlyMatching) × (on ≡ true)
HasEffect flag on Hits = KeepsAll flag on × (changes_hits flag ≡ true)
HasEffect flag on Output = KeepsAll flag on × (changes_hits flag ≡ false)
