-- A session as contracts see it: the inputs that its edits have left, the marks, and the number of
-- states.
use Rattle.std.specs.Prelude.{Result, ℕ, ◌≡◌, slice_set, All, ◌≤◌, map, length, MatchResult, List}
use Rattle.re_search.specs.Working.Matchers.{matched_expression}
use Rattle.grep_core.specs.{Working.MatcherLists.{AreMatchers, KeepAtMost}, Files.Inputs}
use Rattle.grep_session.specs.{declared.session.Session.TheInside.Inside, Marks.{AreFit, mark_at}}
use Rattle.grep_session.specs.{Marks.Watched, Working.Kept.{IsFileKept, kept_file}}
use Rattle.re_syntax.specs.Profile.{most_patterns, most_states}
use Rattle.line_marks.specs.Stretches.{Splices, Marked, lost}

abbrev pub inputs_of : Inside → Inputs
inputs_of s =
    record {
      syntax = s.syntax;
      options = s.options;
      patterns = map (λ text. text.items) s.texts.items;
      files = map kept_file s.files.items;
    }

abbrev pub watched_of : Inside → Watched
watched_of s = record { inputs = inputs_of s; marks = s.marks.items; states = s.states }

-- the matchers are those of the patterns, what is kept of each line is what they find in it, and
-- they keep no more states than were asked for; the marks fit the files
pub record IsSession (s : Inside) : Type 0 where
  pub matchers : AreMatchers s.syntax s.options (map (λ text. text.items) s.texts.items)
      s.matchers.items
  pub few : length s.matchers.items ≤ most_patterns
  pub kept : All (IsFileKept (map matched_expression s.matchers.items) s.options) s.files.items
  pub rooms : KeepAtMost s.states s.matchers.items
  pub some_states : 1 ≤ s.states
  pub few_states : s.states ≤ most_states
  pub fit : AreFit (map kept_file s.files.items) s.marks.items

-- no line of any file is left untouched, or nothing is touched
abbrev pub LosesMarks : {T E : Type 0} → List Marked → List Marked → Result T E → Type 0
LosesMarks old new result = MatchResult result (λ _. new ≡ map lost old) (λ _. new ≡ old)

-- the mark of file `k` is that after `count` lines from line `start` on were replaced by `added`
-- lines, and the others are as they were
abbrev pub SplicesMark : ℕ → ℕ → ℕ → ℕ → List Marked → List Marked → Type 0
SplicesMark k start count added old new =
    (mark : Marked) × Splices start count added (mark_at old k) mark × (new ≡ slice_set old k mark)
