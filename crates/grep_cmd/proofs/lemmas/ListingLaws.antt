-- The replies to `changes` and `page`, with the status after them.
use Rattle.{grep_cmd.proofs.Prelude.{Bool, ◌≡◌, ℕ, [], ◌∷◌, ◌++◌, Option, Result, Ok, Err, inl, inr, refl, append-nil, IsErr, Text, Status, Inputs, written, output_line, Writes, Watched, changes_rows, page_lines, WritesChanges, WritesPage, all_known, status_line, LeavesReport, WritesReport, WritesHits}, grep_session.proofs.lemmas.Writing.{writes_err, writes_after, stops_before}}

-- a write failed before what changed counted as reported, or all of it does
left_before : {T E : Type 0} (before after then : Watched) (r : Result T E) → IsErr r → after ≡ before → LeavesReport before after then r
left_before before after then (Ok v) is same = absurd (let no : ⊥ = cc is in no)
left_before before after then (Err e) is same = inr same

left_after : {T E : Type 0} (before after then : Watched) (r : Result T E) → after ≡ then → LeavesReport before after then r
left_after before after then (Ok v) same = same
left_after before after then (Err e) same = inl same

module _ (texts : Bool) {W : Type 0} (contents : W → Option Text) (failures : W → ℕ) where
  one_line : {T E : Type 0} (a b : W) (text : Text) (r : Result T E) → Writes contents failures a b (output_line [] text) r → Writes contents failures a b (written [] (text ∷ [])) r
  one_line a b text r w = rw (append-nil (output_line [] text)) w

  -- the status by the last call is that of the rows
  same_line : {T E : Type 0} (a b : W) (s t : Status) (r : Result T E) → s ≡ t → Writes contents failures a b (output_line [] (status_line s)) r → Writes contents failures a b (written [] (status_line t ∷ [])) r
  same_line a b s t r same w = one_line a b (status_line t) r (rw same at w)

  -- a write failed within the changes
  pub report_front : (T E F : Type 0) (before after : Watched) (a b : W) (fault : F) (r : Result T E) → IsErr r → WritesChanges contents failures [] texts a b before after (Err fault) → WritesReport contents failures a b texts before after r
  report_front T E F before after a b fault r is t =
      let rows = changes_rows texts 0 t.all.changes in (
        rows ++ status_line t.all.status ∷ [],
        all_known before,
        record { all = t.all; is = refl; leaves = refl },
        writes_err contents failures [] a b _ r is (stops_before contents failures [] a b rows (status_line t.all.status ∷ []) t.wrote),
        left_before before after (all_known before) r is t.leaves,
      )

  -- the changes were written, and the status by the last call
  pub report_whole : (T E F : Type 0) (before after : Watched) (a b c : W) (status : Status) (r : Result T E) → WritesChanges contents failures [] texts a b {E = F} before after (Ok status) → Writes contents failures b c (output_line [] (status_line status)) r → WritesReport contents failures a c texts before after r
  report_whole T E F before after a b c status r t w =
      let rows = changes_rows texts 0 t.all.changes in (
        rows ++ status_line t.all.status ∷ [],
        all_known before,
        record { all = t.all; is = refl; leaves = refl },
        writes_after contents failures [] a b c rows (status_line t.all.status ∷ []) r t.wrote (same_line b c _ _ r t.answered w),
        left_after before after (all_known before) r t.leaves,
      )

  -- a write failed within the page
  pub shows_hits_front : (T E F : Type 0) (inputs : Inputs) (first count : ℕ) (a b : W) (fault : F) (r : Result T E) → IsErr r → WritesPage contents failures [] texts a b inputs first count (Err fault) → WritesHits contents failures a b texts inputs first count r
  shows_hits_front T E F inputs first count a b fault r is t =
      let rows = page_lines texts first count t.all.view in (
        rows ++ status_line t.all.status ∷ [],
        record { all = t.all; is = refl },
        writes_err contents failures [] a b _ r is (stops_before contents failures [] a b rows (status_line t.all.status ∷ []) t.wrote),
      )

  pub shows_hits_whole : (T E F : Type 0) (inputs : Inputs) (first count : ℕ) (a b c : W) (status : Status) (r : Result T E) → WritesPage contents failures [] texts a b {E = F} inputs first count (Ok status) → Writes contents failures b c (output_line [] (status_line status)) r →
      WritesHits contents failures a c texts inputs first count r
  shows_hits_whole T E F inputs first count a b c status r t w =
      let rows = page_lines texts first count t.all.view in (
        rows ++ status_line t.all.status ∷ [],
        record { all = t.all; is = refl },
        writes_after contents failures [] a b c rows (status_line t.all.status ∷ []) r t.wrote (same_line b c _ _ r t.answered w),
      )
