-- How the replies to `changes` and `page` are written.
use Rattle.std.specs.Prelude.{◌≡◌, ℕ, List, [], Option, Result, MatchResult, ◌⊎◌, Bool}
use Rattle.{re_syntax.specs.Bytes.Text, grep_core.specs.{Files.Inputs, Output.written}}
use Rattle.{grep_core.specs.Written.Writes, grep_session.specs.Marks.Watched}
use Rattle.grep_cmd.specs.Replies.{ReportsChanges, ReportsPage}

-- what changed counts as reported; where a write failed it may still be to report
abbrev pub LeavesReport : {T E : Type 0} → Watched → Watched → Watched → Result T E → Type 0
LeavesReport before after then result =
    MatchResult result (λ _. after ≡ then) (λ _. (after ≡ then) ⊎ (after ≡ before))

module _ {W : Type 0} (contents : W → Option Text) (failures : W → ℕ) (old new : W) where
  -- what changed was written, or a beginning of it
  abbrev pub WritesReport : {T E : Type 0} → Bool → Watched → Watched → Result T E → Type 0
  WritesReport texts before after result =
      (rows : List Text) × (then : Watched) × ReportsChanges texts before then rows ×
      Writes contents failures old new (written [] rows) result ×
      LeavesReport before after then result

  -- a page was written, or a beginning of it
  abbrev pub WritesHits : {T E : Type 0} → Bool → Inputs → ℕ → ℕ → Result T E → Type 0
  WritesHits texts inputs first count result =
      (rows : List Text) × ReportsPage texts inputs first count rows ×
      Writes contents failures old new (written [] rows) result
