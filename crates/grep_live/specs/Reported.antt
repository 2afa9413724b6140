-- What `changes` and `page` write, and which lists an editor has after that.
use Rattle.std.specs.Prelude.{◌≡◌, ℕ, List, Option, IfOk, Result, MatchResult, Bool}
use Rattle.re_syntax.specs.{Expression.Expression, Bytes.Text}
use Rattle.grep_core.specs.{declared.status.Status.Status, Written.Writes, Output.written}
use Rattle.grep_core.specs.{Files.{Inputs, Mean}, Messages.StatusOf}
use Rattle.grep_live.specs.{Follows.Follows, Changes.{ChangesFile, Change, all_after}}
use Rattle.grep_live.specs.{Rows.{changes_rows, page_lines}, Hits.{AllThree, View, AreHits}}
use Rattle.grep_session.specs.Marks.{all_known, Watched}

-- what changed of each file, and the status; by these changes any view that followed becomes the
-- present hits, and follows once all of them are reported
pub record AllChanges (old : Watched) : Type 0 where
  pub es : List Expression
  pub are_meant : Mean old.inputs es
  pub changes : List (List Change)
  pub are_changes : AllThree (ChangesFile es old.inputs.options) old.inputs.files old.marks changes
  pub status : Status
  pub is_status : StatusOf es old.inputs.options old.inputs.files status
  pub catches_up : (view : View) → Follows old view →
      AreHits es old.inputs.options old.inputs.files (all_after changes view)
  pub follows : (view : View) → Follows old view → Follows (all_known old) (all_after changes view)

-- the hits of each file, and the status
pub record AllHits (inputs : Inputs) : Type 0 where
  pub es : List Expression
  pub are_meant : Mean inputs es
  pub view : View
  pub are_hits : AreHits es inputs.options inputs.files view
  pub status : Status
  pub is_status : StatusOf es inputs.options inputs.files status

module _ {W : Type 0} (contents : W → Option Text) (failures : W → ℕ) (margin : Text)
    (texts : Bool) (begun ended : W) where
  -- what changed was written, and the answer is the status; or a write failed after a beginning
  pub record WritesChanges {E : Type 0} (old new : Watched) (result : Result Status E) : Type 0 where
    pub all : AllChanges old
    pub wrote : Writes contents failures begun ended
        (written margin (changes_rows texts 0 all.changes)) result
    pub answered : IfOk result (λ answer. answer ≡ all.status)
    pub leaves : MatchResult result (λ _. new ≡ all_known old) (λ _. new ≡ old)

  -- a page was written, and the answer is the status; or a write failed after a beginning
  pub record WritesPage {E : Type 0} (inputs : Inputs) (first count : ℕ)
      (result : Result Status E) : Type 0 where
    pub all : AllHits inputs
    pub wrote : Writes contents failures begun ended
        (written margin (page_lines texts first count all.view)) result
    pub answered : IfOk result (λ answer. answer ≡ all.status)
