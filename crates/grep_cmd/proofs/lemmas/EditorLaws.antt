-- The lists that an editor makes by the replies alone follow, and are the present hits.
use Rattle.{grep_cmd.proofs.{Prelude.{Bool, ◌⊎◌, ◌≢◌, All, All-head, All-tail, All-cons, All-weaker, map, text_after, sets_text, HaveTexts, AreButTexts, read_change, ScriptState, new_state, ◌≡◌, ℕ, ◌+◌, ◌<◌, ◌≤◌, ◌^◌, min, true, false, true≢false, List, [], ◌∷◌, ◌++◌, length, take, drop, get_or, codes, Result, Ok, Err, refl, sym, ap, subst, ◌∙◌, inl, inr, arith, append_assoc, ◌-◌, list_any, sum_by, Text, Status, IfHolds, File, Inputs, EditFault, Edit, Marked, View, Watched, ChangesFile, all_after, FollowsFile, Follows, view_after, AreFit, changes_rows, total_row, page_row, page_rows, all_hits, all_known, Step, does, reports, reports_changes, reports_page, tells_version, is_bad, is_truncated, AreShown, with_margin, status_line, ReportsChanges, RepliesTo, Replies, SearchesAtMost, IsAnswered, AnswersScript, cause, reply_to, IsHeld, bytes_of, has_status, EndsWithStatus, IsOneReply, ReadsChanges, ListsAfter, ListsAfterAll, ArePresent, Took, EditorsFollow, or_parts, All-nil, sum_by-cons}, lemmas.{ReadingLaws.{first_same, rest_same, cut_same, one_reading}, BroughtLaws.{brought, steps_bring}, TextLaws.{Kept, AreAs, ViewsAs, as_all_after, as_view_after, same_views, but_texts}, RowTests.{none_mapped, none_joined, none_changes}, HeldLaws.{IsWithin, within_wider, within_after, within_known, changes_held}}}, grep_session.proofs.lemmas.FitLemmas.{known_fit, zip-length}, grep_live.proofs.lemmas.{CarryLemmas.edits_carry, ListLemmas.three-length}}
use Rattle.grep_core.specs.Meters.{Steps as StepCounts}
use Rattle.grep_core.specs.declared.status.Status.TheVariants as status

-- ---- where a reply ends

has_it : (s : Status) → has_status (status_line s) ≡ true
has_it status.Selected = refl
has_it status.NoneSelected = refl
has_it status.Error = refl

ends_with : (rows : List Text) (s : Status) (lines : List Text) → lines ≡ rows ++ status_line s ∷ [] → list_any has_status rows ≡ false → EndsWithStatus lines
ends_with rows s lines e none = (rows, status_line s, e, none, has_it s)

shown_ends : (inputs : Inputs) (shown : List Text) → AreShown inputs shown → EndsWithStatus shown
shown_ends inputs shown s =
    let out = none_mapped has_status (λ line. codes "o " ++ line) s.grep.out (λ line. refl) in
    let reported = none_mapped has_status (λ line. codes "e " ++ line) s.grep.reported (λ line. refl) in
    ends_with (with_margin (codes "o ") s.grep.out ++ with_margin (codes "e ") s.grep.reported) s.grep.status shown
    (s.is ∙ sym (append_assoc (with_margin (codes "o ") s.grep.out) (with_margin (codes "e ") s.grep.reported) (status_line s.grep.status ∷ [])))
    (none_joined has_status (with_margin (codes "o ") s.grep.out) (with_margin (codes "e ") s.grep.reported) out reported)

-- the reply to a step is taken whole
is_one_reply : (step : Step) (before after : ScriptState) (reply : List Text) → RepliesTo step before reply after → IsOneReply step reply
is_one_reply (does edit) before after reply r = rw r.3
is_one_reply reports before after reply r = shown_ends before.session.inputs _ r.0
is_one_reply reports_changes before after reply (r, same) = ends_with (changes_rows before.texts 0 r.all.changes) r.all.status reply r.is (none_changes has_status before.texts (λ hit. refl) (λ k change. refl) 0 r.all.changes)
is_one_reply (reports_page first count) before after reply (r, same) =
    let all = all_hits 0 r.all.view in
    ends_with (total_row (min (length all) (2 ^ 64 - 1)) ∷ page_rows before.texts first count all) r.all.status reply r.is (none_mapped has_status (page_row before.texts) (take count (drop first all)) (λ row. refl))
is_one_reply tells_version before after reply r = rw r.0
is_one_reply (sets_text on) before after reply r = rw r.0
is_one_reply is_bad before after reply r = rw r.0
is_one_reply is_truncated before after reply r = rw r.0

-- and the next step finds the rows with their texts or without, as this one leaves them
texts_go : (step : Step) (before after : ScriptState) (reply : List Text) → RepliesTo step before reply after → after.texts ≡ text_after step before.texts
texts_go (does edit) before after reply r = r.2
texts_go reports before after reply r = rw r.1
texts_go reports_changes before after reply r = r.1
texts_go (reports_page first count) before after reply r = rw r.1
texts_go tells_version before after reply r = rw r.1
texts_go (sets_text on) before after reply r = rw r.1
texts_go is_bad before after reply r = rw r.1
texts_go is_truncated before after reply r = rw r.1

-- ---- one reply after another

-- lines up to the status are taken in one way
rows_cut : (xs ys : List Text) (x y : Text) (s t : List Text) → list_any has_status xs ≡ false → list_any has_status ys ≡ false → has_status x ≡ true → has_status y ≡ true → xs ++ (x ∷ s) ≡ ys ++ (y ∷ t) → (xs ++ x ∷ [] ≡ ys ++ y ∷ []) × (s ≡ t)
rows_cut [] [] x y s t nx ny hx hy e = let first = first_same x y s t e in ((λ i. first i ∷ []), rest_same x y s t e)
rows_cut [] (z ∷ ys) x y s t nx ny hx hy e =
    let no = (or_parts (has_status z) (list_any has_status ys) ny).0 in
    let first = first_same x z s (ys ++ (y ∷ t)) e in
    absurd (true≢false (cc))
rows_cut (w ∷ xs) [] x y s t nx ny hx hy e =
    let no = (or_parts (has_status w) (list_any has_status xs) nx).0 in
    let first = first_same w y (xs ++ (x ∷ s)) t e in
    absurd (true≢false (cc))
rows_cut (w ∷ xs) (z ∷ ys) x y s t nx ny hx hy e =
    let first = first_same w z (xs ++ (x ∷ s)) (ys ++ (y ∷ t)) e in
    let more = rows_cut xs ys x y s t (or_parts (has_status w) (list_any has_status xs) nx).1 (or_parts (has_status z) (list_any has_status ys) ny).1 hx hy (rest_same w z _ _ e) in
    ((λ i. first i ∷ more.0 i), more.1)

status_cut : (a b s t : List Text) → EndsWithStatus a → EndsWithStatus b → a ++ s ≡ b ++ t → (a ≡ b) × (s ≡ t)
status_cut a b s t (xs, x, is_a, nx, hx) (ys, y, is_b, ny, hy) e =
    let left : a ++ s ≡ xs ++ (x ∷ s) = cc (append_assoc xs (x ∷ []) s) in
    let right : b ++ t ≡ ys ++ (y ∷ t) = cc (append_assoc ys (y ∷ []) t) in
    let both = rows_cut xs ys x y s t nx ny hx hy (sym left ∙ e ∙ right) in
    (is_a ∙ both.0 ∙ sym is_b, both.1)

reply_cut : (step : Step) (a b s t : List Text) → IsOneReply step a → IsOneReply step b → a ++ s ≡ b ++ t → (a ≡ b) × (s ≡ t)
reply_cut (does edit) a b s t p q e = cut_same a b s t (p ∙ sym q) e
reply_cut reports a b s t p q e = status_cut a b s t p q e
reply_cut reports_changes a b s t p q e = status_cut a b s t p q e
reply_cut (reports_page first count) a b s t p q e = status_cut a b s t p q e
reply_cut tells_version a b s t p q e = cut_same a b s t (p ∙ sym q) e
reply_cut (sets_text on) a b s t p q e = cut_same a b s t (p ∙ sym q) e
reply_cut is_bad a b s t p q e = cut_same a b s t (p ∙ sym q) e
reply_cut is_truncated a b s t p q e = cut_same a b s t (p ∙ sym q) e

-- ---- the lists after one reply

refused_is_not_ok : (fault : EditFault) → reply_to {T = Unit {0}} (Err fault) ∷ [] ≡ codes "ok" ∷ [] → ⊥
refused_is_not_ok fault e =
    let line = first_same (codes "refused " ++ cause fault) (codes "ok") [] [] e in
    let byte : ◌≡◌ {A = ℕ} 114 111 = ap (λ (l : Text). get_or l 0 0) line in
    omega (arith, byte)

-- the lists are such that follow, but that some hits may lack their text; the marks fit
record Stands (Lost : Type 0) (state : ScriptState) (view : View) : Type 0 where
  kept : Kept Lost state.texts
  others : View
  alike : ViewsAs Lost view others
  fit : AreFit state.session.inputs.files state.session.marks
  follows : Follows state.session others

-- no text is lost by a step, or some may be
abbrev Keeps : Type 0 → Step → Type 0
Keeps Lost step = (step ≢ sets_text false) ⊎ Lost

-- the lists are the present hits, but that some may lack their text
abbrev Present : Type 0 → ScriptState → View → Type 0
Present Lost state view = (others : View) × ViewsAs Lost view others × ArePresent state.session others

-- the lists that the reported changes make
read_as : (before after : ScriptState) (reply : List Text) (view new : View) (r : ReportsChanges before.texts before.session after.session reply) → length view ≡ length r.all.changes → ListsAfter before.texts reports_changes reply view new →
    all_after (map (map (read_change before.texts)) r.all.changes) view ≡ new
read_as before after reply view new r lists (changes, reads, n) =
    let long : length changes ≡ length r.all.changes = reads.one_each ∙ lists in
    let held = subst (λ (n : ℕ). n < 2 ^ 64) (sym reads.one_each) reads.held.0 in
    sym (n ∙ one_reading before.texts changes r.all.changes reads.status r.all.status view long held reads.held.1 (sym reads.is ∙ r.is))

module _ (Lost : Type 0) (before after : ScriptState) (reply : List Text) (view new : View) (s : Stands Lost before view) where
  lists_each : (r : ReportsChanges before.texts before.session after.session reply) → length view ≡ length r.all.changes
  lists_each r =
      let old = before.session in
      let files = (three-length (ChangesFile r.all.es old.inputs.options) old.inputs.files old.marks r.all.changes r.all.are_changes).1 in
      let lists = (three-length (FollowsFile old.inputs) old.inputs.files old.marks s.others s.follows).1 in
      zip-length (AreAs Lost) view s.others s.alike ∙ sym lists ∙ files

  edit_stands : (edit : Edit) (answer : Result (Unit {0}) EditFault) → IsAnswered edit before.session after.session answer → after.texts ≡ before.texts → reply ≡ reply_to answer ∷ [] → IfHolds (reply ≡ codes "ok" ∷ []) (new ≡ view_after edit view) (new ≡ view) → Stands Lost after new
  edit_stands edit (Ok done) a same e (inl (ok, n)) =
      let c = edits_carry edit (Ok done) before.session after.session s.fit a.gives a.marks in
      record {
        kept = subst (Kept Lost) (sym same) s.kept;
        others = view_after edit s.others;
        alike = subst (λ (v : View). ViewsAs Lost v (view_after edit s.others)) (sym n) (as_view_after Lost edit view s.others s.alike);
        fit = c.fit;
        follows = c.follows s.others s.follows;
      }
  edit_stands edit (Ok done) a same e (inr (other, n)) = absurd (other e)
  edit_stands edit (Err fault) a same e (inl (ok, n)) = absurd (refused_is_not_ok fault (sym e ∙ ok))
  edit_stands edit (Err fault) a same e (inr (other, n)) =
      let c = edits_carry edit (Err fault) before.session after.session s.fit a.gives a.marks in
      record {
        kept = subst (Kept Lost) (sym same) s.kept;
        others = s.others;
        alike = subst (λ (v : View). ViewsAs Lost v s.others) (sym n) s.alike;
        fit = c.fit;
        follows = c.follows s.others s.follows;
      }

  still : after ≡ before → new ≡ view → Stands Lost after new
  still same n = subst (λ (w : ScriptState). Stands Lost w new) (sym same) (subst (Stands Lost before) (sym n) s)

  text_stands : (on : Bool) → Keeps Lost (sets_text on) → after ≡ record before { texts = on } → new ≡ view → Stands Lost after new
  text_stands on keeps is n =
      let set : Stands Lost (record before { texts = on }) view = record { kept = by_switch on keeps; others = s.others; alike = s.alike; fit = s.fit; follows = s.follows } in
      subst (λ (w : ScriptState). Stands Lost w new) (sym is) (subst (Stands Lost (record before { texts = on })) (sym n) set)
    where
      by_switch : (on : Bool) → Keeps Lost (sets_text on) → Kept Lost on
      by_switch true keeps = inl refl
      by_switch false (inl other) = absurd (other refl)
      by_switch false (inr lost) = inr lost

  -- the lists after the reply to `changes`
  read_stands : (r : ReportsChanges before.texts before.session after.session reply) → ListsAfter before.texts reports_changes reply view new → ViewsAs Lost new (all_after r.all.changes s.others)
  read_stands r l =
      subst (λ (v : View). ViewsAs Lost v (all_after r.all.changes s.others)) (read_as before after reply view new r (lists_each r) l) (as_all_after Lost before.texts s.kept r.all.changes view s.others s.alike)

  changes_stand : (r : ReportsChanges before.texts before.session after.session reply) → after.texts ≡ before.texts → ListsAfter before.texts reports_changes reply view new → Stands Lost after new
  changes_stand r same l = record {
    kept = subst (Kept Lost) (sym same) s.kept;
    others = all_after r.all.changes s.others;
    alike = read_stands r l;
    fit = subst (λ (w : Watched). AreFit w.inputs.files w.marks) (sym r.leaves) (known_fit before.session.inputs.files);
    follows = subst (λ (w : Watched). Follows w (all_after r.all.changes s.others)) (sym r.leaves) (r.all.follows s.others s.follows);
  }

  step_follows : (step : Step) → Keeps Lost step → RepliesTo step before reply after → ListsAfter before.texts step reply view new → Stands Lost after new
  step_follows (does edit) k r l = edit_stands edit r.0 r.1 r.2 r.3 l
  step_follows reports k r l = still r.1 l
  step_follows reports_changes k r l = changes_stand r.0 r.1 l
  step_follows (reports_page first count) k r l = still r.1 l
  step_follows tells_version k r l = still r.1 l
  step_follows (sets_text on) k r l = text_stands on k r.1 l
  step_follows is_bad k r l = still r.1 l
  step_follows is_truncated k r l = still r.1 l

  step_present : RepliesTo reports_changes before reply after → ListsAfter before.texts reports_changes reply view new → Present Lost after new
  step_present (r, same) l =
      let others = all_after r.all.changes s.others in
      let known : ArePresent (all_known before.session) others = record { es = r.all.es; are_meant = r.all.are_meant; are_hits = r.all.catches_up s.others s.follows } in
      (others, read_stands r l, subst (λ (w : Watched). ArePresent w others) (sym r.leaves) known)

-- ---- all replies

-- the state and the lists after the first reply, and the replies to come
record OneStep (step : Step) (steps : List Step) (before end : ScriptState) (replies : List Text) (view new : View) : Type 0 where
  state : ScriptState
  between : View
  reply : List Text
  rest : List Text
  joined : replies ≡ reply ++ rest
  own : ℕ
  cost : SearchesAtMost step before.session.inputs own
  replies_to : RepliesTo step before reply state
  lists : ListsAfter before.texts step reply view between
  most : ℕ
  are_replies : Replies steps state rest end most
  lists_all : ListsAfterAll state.texts steps rest between new

first_step : (step : Step) (steps : List Step) (before end : ScriptState) (replies : List Text) (view new : View) (most : ℕ) → Replies (step ∷ steps) before replies end most → ListsAfterAll before.texts (step ∷ steps) replies view new → OneStep step steps before end replies view new
first_step step steps before end replies view new most (reply, state, rest, own, left_over, r, cost, more, e, sum) (taken, between, left, split, one, l, lists) =
    let same = reply_cut step taken reply left rest one (is_one_reply step before state reply r) (sym split ∙ e) in
    record {
      state = state;
      between = between;
      reply = reply;
      rest = rest;
      joined = e;
      own = own;
      cost = cost;
      replies_to = r;
      lists = subst (λ (lines : List Text). ListsAfter before.texts step lines view between) same.0 l;
      most = left_over;
      are_replies = more;
      lists_all = subst (λ (b : Bool). ListsAfterAll b steps rest between new) (sym (texts_go step before state reply r)) (subst (λ (lines : List Text). ListsAfterAll (text_after step before.texts) steps lines between new) same.1 lists);
    }

module _ (Lost : Type 0) where
  follow_from : (steps : List Step) (before end : ScriptState) (replies : List Text) (view new : View) (most : ℕ) → All (Keeps Lost) steps → Stands Lost before view → Replies steps before replies end most → ListsAfterAll before.texts steps replies view new → Stands Lost end new
  follow_from [] before end replies view new most keep f r l = still Lost before end replies view new f r.1 l.1
  follow_from (step ∷ steps) before end replies view new most keep f r l =
      let a = first_step step steps before end replies view new most r l in
      let next = step_follows Lost before a.state a.reply view a.between f step (All-head (Keeps Lost) step steps keep) a.replies_to a.lists in
      follow_from steps a.state end a.rest a.between new a.most (All-tail (Keeps Lost) step steps keep) next a.are_replies a.lists_all

  present_from : (steps : List Step) (before end : ScriptState) (replies : List Text) (view new : View) (most : ℕ) → All (Keeps Lost) steps → Stands Lost before view → Replies (steps ++ reports_changes ∷ []) before replies end most → ListsAfterAll before.texts (steps ++ reports_changes ∷ []) replies view new → Present Lost end new
  present_from [] before end replies view new most keep f r l =
      let a = first_step reports_changes [] before end replies view new most r l in
      let here = step_present Lost before a.state a.reply view a.between f a.replies_to a.lists in
      subst (λ (w : ScriptState). Present Lost w new) (sym a.are_replies.1) (subst (Present Lost a.state) (sym a.lists_all.1) here)
  present_from (step ∷ steps) before end replies view new most keep f r l =
      let a = first_step step (steps ++ reports_changes ∷ []) before end replies view new most r l in
      let next = step_follows Lost before a.state a.reply view a.between f step (All-head (Keeps Lost) step steps keep) a.replies_to a.lists in
      present_from steps a.state end a.rest a.between new a.most (All-tail (Keeps Lost) step steps keep) next a.are_replies a.lists_all

-- the first steps of some
begin_from : (first later : List Step) (before end : ScriptState) (replies : List Text) (view new : View) (most : ℕ) → Replies (first ++ later) before replies end most → ListsAfterAll before.texts (first ++ later) replies view new →
    (front : List Text) × (rest : List Text) × (between : ScriptState) × (lists : View) × (sum : ℕ) × (replies ≡ front ++ rest) × Replies first before front between sum × ListsAfterAll before.texts first front view lists
begin_from [] later before end replies view new most r l = ([], replies, before, view, 0, refl, (refl, refl, refl), (refl, refl))
begin_from (step ∷ first) later before end replies view new most r l =
    let a = first_step step (first ++ later) before end replies view new most r l in
    let (front, rest, between, lists, sum, joined, are, made) = begin_from first later a.state end a.rest a.between new a.most a.are_replies a.lists_all in (
      a.reply ++ front,
      rest,
      between,
      lists,
      a.own + sum,
      a.joined ∙ ap (λ (l : List Text). a.reply ++ l) joined ∙ sym (append_assoc a.reply front rest),
      (a.reply, a.state, front, a.own, sum, a.replies_to, a.cost, are, refl, refl),
      (a.reply, a.between, front, refl, is_one_reply step before a.state a.reply a.replies_to, a.lists, subst (λ (b : Bool). ListsAfterAll b first front a.between lists) (texts_go step before a.state a.reply a.replies_to) made),
    )

-- ---- the replies decide the lists

lists_one : (texts : Bool) (step : Step) (reply : List Text) (view a b : View) → ListsAfter texts step reply view a → ListsAfter texts step reply view b → a ≡ b
lists_one texts (does edit) reply view a b (inl (ok, p)) (inl (same, q)) = p ∙ sym q
lists_one texts (does edit) reply view a b (inl (ok, p)) (inr (other, q)) = absurd (other ok)
lists_one texts (does edit) reply view a b (inr (other, p)) (inl (ok, q)) = absurd (other ok)
lists_one texts (does edit) reply view a b (inr (other, p)) (inr (same, q)) = p ∙ sym q
lists_one texts reports reply view a b p q = p ∙ sym q
lists_one texts reports_changes reply view a b (xs, x, p) (ys, y, q) =
    let held = subst IsHeld (sym x.one_each) x.held.0 in
    p ∙ one_reading texts xs ys x.status y.status view (x.one_each ∙ sym y.one_each) held x.held.1 (sym x.is ∙ y.is) ∙ sym q
lists_one texts (reports_page first count) reply view a b p q = p ∙ sym q
lists_one texts tells_version reply view a b p q = p ∙ sym q
lists_one texts (sets_text on) reply view a b p q = p ∙ sym q
lists_one texts is_bad reply view a b p q = p ∙ sym q
lists_one texts is_truncated reply view a b p q = p ∙ sym q

all_one : (texts : Bool) (steps : List Step) (replies : List Text) (view a b : View) → ListsAfterAll texts steps replies view a → ListsAfterAll texts steps replies view b → a ≡ b
all_one texts [] replies view a b p q = p.1 ∙ sym q.1
all_one texts (step ∷ steps) replies view a b (reply, between, rest, e, is_one, p, more) (other, lists, left, f, single, q, later) =
    let next = text_after step texts in
    let same = reply_cut step reply other rest left is_one single (sym e ∙ f) in
    let here = lists_one texts step other view between lists (subst (λ (r : List Text). ListsAfter texts step r view between) same.0 p) q in
    let after_it = subst (λ (r : List Text). ListsAfterAll next steps r between a) same.1 more in
    all_one next steps left lists a b (subst (λ (v : View). ListsAfterAll next steps left v a) here after_it) later

-- ---- an editor can take all replies

same_within : (n : ℕ) (before after : ScriptState) → IsWithin n before.session → after ≡ before → IsWithin (n + 1) after.session
same_within n before after w same = subst (λ (s : ScriptState). IsWithin (n + 1) s.session) (sym same) (within_wider n (n + 1) (omega arith) before.session w)

within_step : (n : ℕ) (step : Step) (before after : ScriptState) (reply : List Text) → IsWithin n before.session → RepliesTo step before reply after → IsWithin (n + brought step) after.session
within_step n (does edit) before after reply w r = within_after n edit before.session after.session r.0 w r.1.gives r.1.marks
within_step n reports before after reply w r = same_within n before after w r.1
within_step n reports_changes before after reply w (r, same) = subst (IsWithin (n + 1)) (sym r.leaves) (within_wider n (n + 1) (omega arith) (all_known before.session) (within_known n before.session w))
within_step n (reports_page first count) before after reply w r = same_within n before after w r.1
within_step n tells_version before after reply w r = same_within n before after w r.1
within_step n (sets_text on) before after reply w r = same_within n (record before { texts = on }) after w r.1
within_step n is_bad before after reply w r = same_within n before after w r.1
within_step n is_truncated before after reply w r = same_within n before after w r.1

module _ (n : ℕ) (held : IsHeld n) (before after : ScriptState) (reply : List Text) (view : View) where
  can_edit : (edit : Edit) (answer : Result (Unit {0}) EditFault) → reply ≡ reply_to answer ∷ [] → (new : View) × ListsAfter before.texts (does edit) reply view new
  can_edit edit (Ok done) e = (view_after edit view, inl (e, refl))
  can_edit edit (Err fault) e = (view, inr (λ ok. refused_is_not_ok fault (sym e ∙ ok), refl))

  can_read : IsWithin n before.session → Stands (Unit {0}) before view → (r : ReportsChanges before.texts before.session after.session reply) → ReadsChanges before.texts reply view r.all.changes
  can_read w s r =
      let old = before.session in
      let files = three-length (ChangesFile r.all.es old.inputs.options) old.inputs.files old.marks r.all.changes r.all.are_changes in
      let lists = lists_each (Unit {0}) before after reply view view s r in
      let all = changes_held r.all.es old.inputs.options n held old.inputs.files old.marks r.all.changes w.files w.marks s.fit r.all.are_changes in
      record {
        status = r.all.status;
        is = r.is;
        one_each = sym lists;
        held = (omega (arith, held, w.few, files.0, files.1, lists), all);
      }

  can_step : (step : Step) → IsWithin n before.session → Stands (Unit {0}) before view → RepliesTo step before reply after → (new : View) × ListsAfter before.texts step reply view new
  can_step (does edit) w s r = can_edit edit r.0 r.3
  can_step reports w s r = (view, refl)
  can_step reports_changes w s (r, same) = (all_after (map (map (read_change before.texts)) r.all.changes) view, (r.all.changes, can_read w s r, refl))
  can_step (reports_page first count) w s r = (view, refl)
  can_step tells_version w s r = (view, refl)
  can_step (sets_text on) w s r = (view, refl)
  can_step is_bad w s r = (view, refl)
  can_step is_truncated w s r = (view, refl)

can_from : (steps : List Step) (n : ℕ) (before end : ScriptState) (replies : List Text) (view : View) (most : ℕ) → IsHeld (n + sum_by brought steps) → IsWithin n before.session → Stands (Unit {0}) before view → Replies steps before replies end most → (new : View) × ListsAfterAll before.texts steps replies view new
can_from [] n before end replies view most held w s r = (view, (r.0, refl))
can_from (step ∷ steps) n before end replies view most held w s (reply, between, rest, own, left, r, cost, more, e, sum) =
    let total = sum_by-cons brought step steps in
    let here = can_step n (omega (arith, held)) before between reply view step w s r in
    let next = step_follows (Unit {0}) before between reply view here.0 s step (inr tt) r here.1 in
    let later = can_from steps (n + brought step) between end rest here.0 left (omega (arith, held, total)) (within_step n step before between reply w r) next more in
    let lists = subst (λ (b : Bool). ListsAfterAll b steps rest here.0 later.0) (texts_go step before between reply r) later.1 in
    (later.0, (reply, here.0, rest, e, is_one_reply step before between reply r, here.1, lists))

new_within : (states : ℕ) → IsWithin 0 (new_state states).session
new_within states = record { few = omega arith; files = All-nil (λ (file : File). bytes_of file.lines ≤ 0); marks = All-nil (λ (mark : Marked). mark.known ≤ 0) }

-- an editor begins with no list
new_stands : (Lost : Type 0) (states : ℕ) → Stands Lost (new_state states) []
new_stands Lost states = record { kept = inl refl; others = []; alike = tt; fit = tt; follows = tt }

can_take : (states : ℕ) (script : File) (begun spent : StepCounts) (replies rest : List Text) (after : ScriptState) → bytes_of script.lines < 2 ^ 64 → (a : AnswersScript (new_state states) script begun spent replies rest after) → (view : View) × ListsAfterAll true a.steps replies [] view
can_take states script begun spent replies rest after few a =
    can_from a.steps 0 (new_state states) after replies [] a.most (omega (arith, few, steps_bring script.ending script.lines a.steps rest a.are_steps)) (new_within states) (new_stands (Unit {0}) states) a.are_replies

begin_of : (states : ℕ) (first later : List Step) (t : Took states (first ++ later)) → (begun : Took states first) × (rest : List Text) × (t.replies ≡ begun.replies ++ rest)
begin_of states first later t =
    let (front, rest, between, lists, sum, joined, are, made) = begin_from first later (new_state states) t.state t.replies [] t.view t.most t.are_replies t.lists in
    (record { replies = front; state = between; most = sum; are_replies = are; view = lists; lists = made }, rest, joined)

-- ---- what the lists are

-- where texts may be lost every step keeps the others
all_keep : (steps : List Step) → All (Keeps (Unit {0})) steps
all_keep [] = All-nil (Keeps (Unit {0}))
all_keep (step ∷ steps) = All-cons (Keeps (Unit {0})) step steps (inr tt) (all_keep steps)

none_lost : (steps : List Step) → HaveTexts steps → All (Keeps ⊥) steps
none_lost steps have = All-weaker (λ step. step ≢ sets_text false) (Keeps ⊥) (λ step other. inl other) steps have

follow_whole : (states : ℕ) (steps : List Step) (t : Took states steps) → HaveTexts steps → Follows t.state.session t.view
follow_whole states steps t have =
    let s = follow_from ⊥ steps (new_state states) t.state t.replies [] t.view t.most (none_lost steps have) (new_stands ⊥ states) t.are_replies t.lists in
    subst (Follows t.state.session) (same_views t.view s.others s.alike) s.follows

present_whole : (states : ℕ) (steps : List Step) (t : Took states (steps ++ reports_changes ∷ [])) → HaveTexts steps → ArePresent t.state.session t.view
present_whole states steps t have =
    let (others, alike, are) = present_from ⊥ steps (new_state states) t.state t.replies [] t.view t.most (none_lost steps have) (new_stands ⊥ states) t.are_replies t.lists in
    subst (ArePresent t.state.session) (same_views t.view others alike) are

follow_others : (states : ℕ) (steps : List Step) (t : Took states steps) → (others : View) × AreButTexts t.view others × Follows t.state.session others
follow_others states steps t =
    let s = follow_from (Unit {0}) steps (new_state states) t.state t.replies [] t.view t.most (all_keep steps) (new_stands (Unit {0}) states) t.are_replies t.lists in
    (s.others, but_texts t.view s.others s.alike, s.follows)

present_others : (states : ℕ) (steps : List Step) (t : Took states (steps ++ reports_changes ∷ [])) → (others : View) × AreButTexts t.view others × ArePresent t.state.session others
present_others states steps t =
    let (others, alike, are) = present_from (Unit {0}) steps (new_state states) t.state t.replies [] t.view t.most (all_keep steps) (new_stands (Unit {0}) states) t.are_replies t.lists in
    (others, but_texts t.view others alike, are)

pub editors_follow : EditorsFollow
editors_follow = record {
  can = can_take;
  one = all_one;
  begin = begin_of;
  follow = follow_whole;
  present = present_whole;
  follow_but_texts = follow_others;
  present_but_texts = present_others;
}
