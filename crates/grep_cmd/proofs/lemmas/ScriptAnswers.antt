-- What is taken and answered for one command of a script.
use Rattle.{grep_cmd.proofs.{Prelude.{Bool, ScriptState, ◌≡◌, ◌≢◌, ℕ, ◌<◌, false, List, [], ◌∷◌, ◌++◌, length, min, take, drop, ◌-◌, ◌^◌, Option, Some, None, Result, Ok, Err, IfErr, inl, inr, refl, sym, ap, ◌∙◌, subst, append_assoc, append-nil, codes, arith, list_any, Text, Status, Inputs, written, GoesOut, Numbered, HasHanded, EditFault, Edit, EditGives, MarksGiven, ScriptFault, Read, Write, Memory, Answer, Accepted, Truncated, Watched, changes_rows, total_row, page_row, page_rows, all_hits, AreShown, with_margin, status_line, all_known, LeavesReport, ReportsChanges, ReportsPage, Step, does, counts, Command, IsStep, line_command, RepliesTo, SearchesAtMost, reply_to, truncated, is_refusal, ReadsNext, TakesLines, FlushesFor, Replied, DoesStep, AnswersLine, answer_for, was_refused}, lemmas.RowTests.{none_mapped, none_joined, none_changes}}, grep_core.proofs.lemmas.RowLemmas.{goes_on, stops_later}, re_meter.proofs.lemmas.Adding.adds_none, grep_session.specs.Touched.{NeedsNoMemory, TakesSteps}}
use Rattle.grep_core.specs.declared.status.Status.TheVariants as status
use Rattle.grep_core.specs.Meters.{Steps as StepCounts}
use Rattle.grep_session.specs.declared.fault.EditFault.TheVariants as fault

-- ---- refusals

refused_as : {T : Type 0} (answer : Result T EditFault) → list_any is_refusal (reply_to answer ∷ []) ≡ was_refused (answer_for answer)
refused_as (Ok done) = refl
refused_as (Err fault) = refl

none_status : (s : Status) → list_any is_refusal (status_line s ∷ []) ≡ false
none_status status.Selected = refl
none_status status.NoneSelected = refl
none_status status.Error = refl

-- rows that refuse nothing, and the status after them
status_after : (rows : List Text) (s : Status) {lines : List Text} → lines ≡ rows ++ status_line s ∷ [] → list_any is_refusal rows ≡ false → list_any is_refusal lines ≡ false
status_after rows s is none = ap (list_any is_refusal) is ∙ none_joined is_refusal rows (status_line s ∷ []) none (none_status s)

-- the replies to `show`, `changes` and `page` refuse nothing
pub shown_is_no_refusal : {inputs : Inputs} {shown : List Text} → AreShown inputs shown → list_any is_refusal shown ≡ false
shown_is_no_refusal s =
    let out = none_mapped is_refusal (λ line. codes "o " ++ line) s.grep.out (λ line. refl) in
    let reported = none_mapped is_refusal (λ line. codes "e " ++ line) s.grep.reported (λ line. refl) in
    status_after (with_margin (codes "o ") s.grep.out ++ with_margin (codes "e ") s.grep.reported) s.grep.status
    (s.is ∙ sym (append_assoc (with_margin (codes "o ") s.grep.out) (with_margin (codes "e ") s.grep.reported) (status_line s.grep.status ∷ [])))
    (none_joined is_refusal (with_margin (codes "o ") s.grep.out) (with_margin (codes "e ") s.grep.reported) out reported)

pub changes_is_no_refusal : {texts : Bool} {before after : Watched} {reported : List Text} → ReportsChanges texts before after reported → list_any is_refusal reported ≡ false
changes_is_no_refusal {texts} t = status_after (changes_rows texts 0 t.all.changes) t.all.status t.is (none_changes is_refusal texts (λ hit. refl) (λ k change. refl) 0 t.all.changes)

pub page_is_no_refusal : {texts : Bool} {inputs : Inputs} {first count : ℕ} {reported : List Text} → ReportsPage texts inputs first count reported → list_any is_refusal reported ≡ false
page_is_no_refusal {texts} {first = first} {count = count} t =
    let all = all_hits 0 t.all.view in
    status_after (total_row (min (length all) (2 ^ 64 - 1)) ∷ page_rows texts first count all) t.all.status t.is (none_mapped is_refusal (page_row texts) (take count (drop first all)) (λ row. refl))

-- an edit that needs no memory isn't refused as out of memory
not_for_memory : {T : Type 0} (answer : Result T EditFault) → IfErr answer (λ f. f ≢ fault.Memory) → answer ≢ Err fault.Memory
not_for_memory (Ok done) h = λ e. let no : ⊥ = cc in no
not_for_memory (Err f) h = λ e. h (let same : f ≡ fault.Memory = cc in same)

-- ---- the lines that a command takes

module _ {R : Type 0} (remaining : R → Option Text) (failures : R → ℕ) (reader : R) (handed : List Text) where
  -- a line after those that were taken
  pub one_more_taken : (now : Numbered R) (taken : List Text) (line : Text) → HasHanded remaining failures reader now ((handed ++ taken) ++ line ∷ [])
      → HasHanded remaining failures reader now (handed ++ (taken ++ line ∷ []))
  one_more_taken now taken line h = subst (HasHanded remaining failures reader now) (append_assoc handed taken (line ∷ [])) h

  -- where no further line was read, fewer lines were taken than the command counts
  pub takes_fewer : (count : ℕ) (now : Numbered R) (taken : List Text) (fault : ScriptFault) → length taken < count → ReadsNext remaining failures reader (handed ++ taken) now (Err fault)
      → TakesLines remaining failures reader handed count now (Err fault)
  takes_fewer count now taken Read few h = (taken, few, h)
  takes_fewer count now taken Write few h = (taken, omega (arith, few), h)
  takes_fewer count now taken Memory few h = (taken, omega (arith, few), h)

-- ---- one command

-- a command that searches nothing was done, for which its line is enough
pub does_alone : {R : Type 0} {remaining : R → Option Text} {failures : R → ℕ} {reader : R} {now : Numbered R} {handed : List Text} {line : Text} {begun : StepCounts} {before after : ScriptState} (command : Option Command) (step : Step) {reply : List Text} → HasHanded remaining failures reader now handed → line_command line ≡ command → IsStep command [] step
    → RepliesTo step before reply after → SearchesAtMost step before.session.inputs 0 → DoesStep remaining failures reader handed line now begun begun before after reply
does_alone {handed = handed} {begun = begun} command step h is own replies is_most =
    record { taken = []; step = step; has_handed = rw (append-nil handed) h; is_step = rw is own; replies_to = replies; most = 0; is_most = is_most; few = adds_none 0 0 begun }

module _ {R W : Type 0} {remaining : R → Option Text} {failures : R → ℕ} {reader : R} {now : Numbered R} {contents : W → Option Text} {write_failures : W → ℕ} {old : W} where
  -- a command was done and answered
  answers_step : {T : Type 0} {handed : List Text} {line : Text} {begun spent : StepCounts} {before after : ScriptState} {mid : W} (new : W) (answer : Result T EditFault) {reply : List Text} (r : Result Answer ScriptFault) → GoesOut contents write_failures old mid []
      → DoesStep remaining failures reader handed line now begun spent before after reply → list_any is_refusal reply ≡ was_refused (answer_for answer) → Replied contents write_failures mid new reply (answer_for answer) r
      → AnswersLine remaining failures reader handed line now begun spent before after contents write_failures old new r
  answers_step {handed = handed} {line} {begun} {spent} {before} {after} {mid} new (Ok done) {reply} (Ok given) flushed d none h =
      subst (λ a. AnswersLine remaining failures reader handed line now begun spent before after contents write_failures old new (Ok a)) (sym h.0) (reply, d, goes_on contents write_failures old mid new [] (written [] reply) flushed h.1, none)
  answers_step {handed = handed} {line} {begun} {spent} {before} {after} {mid} new (Err f) {reply} (Ok given) flushed d none h =
      subst (λ a. AnswersLine remaining failures reader handed line now begun spent before after contents write_failures old new (Ok a)) (sym h.0) (reply, d, goes_on contents write_failures old mid new [] (written [] reply) flushed h.1, none)
  answers_step {after = after} {mid} new answer {reply} (Err Write) flushed d none h = inr (inl (after, reply, d, inl refl, stops_later contents write_failures old mid new [] (written [] reply) flushed h))
  answers_step new answer (Err Read) flushed d none h = absurd h
  answers_step new answer (Err Memory) flushed d none h = absurd h

  -- an edit was made by these lines, and answered
  pub answers_edit : (handed : List Text) (line : Text) {begun spent : StepCounts} (before after : ScriptState) {mid : W} (new : W) (edit : Edit) (taken : List Text) {lines : List Text} (answer : Result (Unit {0}) EditFault) (r : Result Answer ScriptFault)
      → GoesOut contents write_failures old mid [] → HasHanded remaining failures reader now lines → lines ≡ handed ++ taken → IsStep (line_command line) taken (does edit) → EditGives edit before.session.inputs after.session.inputs answer → after.session.states ≡ before.session.states
      → MarksGiven edit before.session after.session.marks answer → (NeedsNoMemory edit before.session.inputs → IfErr answer (λ f. f ≢ fault.Memory)) → after.texts ≡ before.texts → TakesSteps edit before.session.inputs begun spent
      → Replied contents write_failures mid new (reply_to answer ∷ []) (answer_for answer) r → AnswersLine remaining failures reader handed line now begun spent before after contents write_failures old new r
  answers_edit handed line before after new edit taken answer r flushed h is own gives states marks memory texts steps replied =
      answers_step {handed = handed} {line = line} {before = before} {after = after} new answer r flushed
      (record {
        taken = taken;
        step = does edit;
        has_handed = subst (HasHanded remaining failures reader now) is h;
        is_step = own;
        replies_to = (answer, record { gives = gives; same_states = states; marks = marks; named = λ none. not_for_memory answer (memory none) }, texts, refl);
        most = steps.most;
        is_most = steps.is_most;
        few = steps.few;
      })
      (refused_as answer) replied

  -- and it was answered
  pub answers_idle : {handed : List Text} (line : Text) (begun : StepCounts) (before after : ScriptState) (new : W) (command : Option Command) (step : Step) (reply : List Text) (answer : Result (Unit {0}) EditFault) (r : Result Answer ScriptFault) → GoesOut contents write_failures old old []
      → HasHanded remaining failures reader now handed → line_command line ≡ command → IsStep command [] step → RepliesTo step before reply after → SearchesAtMost step before.session.inputs 0 → list_any is_refusal reply ≡ was_refused (answer_for answer)
      → Replied contents write_failures old new reply (answer_for answer) r → AnswersLine remaining failures reader handed line now begun begun before after contents write_failures old new r
  answers_idle line begun before after new command step reply answer r flushed h is own replies is_most = answers_step new answer r flushed (does_alone {line = line} {begun = begun} {before = before} {after = after} command step {reply = reply} h is own replies is_most)

module _ {R W : Type 0} {remaining : R → Option Text} {failures : R → ℕ} {reader : R} {handed : List Text} {line : Text} {now : Numbered R} {begun spent : StepCounts} {before : ScriptState} (after : ScriptState) (contents : W → Option Text) (write_failures : W → ℕ) (old new : W) where
  -- the changes were written, and this was left
  pub answers_changes : (left : Watched) {reply : List Text} (r : Result Answer ScriptFault) → DoesStep remaining failures reader handed line now begun spent before (record after { session = left }) reply → list_any is_refusal reply ≡ false
      → left ≡ all_known before.session → LeavesReport before.session after.session left r → Replied contents write_failures old new reply Accepted r → AnswersLine remaining failures reader handed line now begun spent before after contents write_failures old new r
  answers_changes left {reply} (Ok given) d none is l h =
      subst (λ a. AnswersLine remaining failures reader handed line now begun spent before after contents write_failures old new (Ok a)) (sym h.0)
      (reply, subst (λ (w : Watched). DoesStep remaining failures reader handed line now begun spent before (record after { session = w }) reply) (sym l) d, h.1, none)
  answers_changes left {reply} (Err Write) d none is (inl same) h = inr (inl (record after { session = left }, reply, d, inl (ap (λ (w : Watched). record after { session = w }) same), h))
  answers_changes left {reply} (Err Write) d none is (inr same) h = inr (inl (record after { session = left }, reply, d, inr (ap (λ (w : Watched). record after { session = w }) (ap all_known same ∙ sym is)), h))
  answers_changes left (Err Read) d none is l h = absurd h
  answers_changes left (Err Memory) d none is l h = absurd h

module _ {R W : Type 0} (remaining : R → Option Text) (failures : R → ℕ) (reader : R) (handed : List Text) (line : Text) (now : Numbered R) (begun : StepCounts) (before : ScriptState) (contents : W → Option Text) (write_failures : W → ℕ) (old mid : W) (count : ℕ)
    (edit : List Text → Edit) (is : line_command line ≡ Some (counts count edit)) where
  abbrev Lasts : W → Result Answer ScriptFault → Type 0
  Lasts = AnswersLine remaining failures reader handed line now begun begun before before contents write_failures old

  -- fewer lines follow than it counts
  pub answers_truncated : (new : W) (r : Result Answer ScriptFault) → TakesLines remaining failures reader handed count now (Ok None) → GoesOut contents write_failures old mid [] → Replied contents write_failures mid new (truncated ∷ []) Truncated r → Lasts new r
  answers_truncated new (Ok given) t flushed h =
      subst (λ a. Lasts new (Ok a)) (sym h.0) (record { taken = t.0; wants = rw is t.1; stands = t.2; idle = refl; same = refl }, goes_on contents write_failures old mid new [] (written [] (truncated ∷ [])) flushed h.1)
  answers_truncated new (Err Write) t flushed h =
      inr (inr (record { taken = t.0; wants = rw is t.1; stands = t.2; idle = refl; same = refl }, stops_later contents write_failures old mid new [] (written [] (truncated ∷ [])) flushed h))
  answers_truncated new (Err Read) t flushed h = absurd h
  answers_truncated new (Err Memory) t flushed h = absurd h

  -- not all lines that it counts were read
  pub answers_lost : (f : ScriptFault) → TakesLines remaining failures reader handed count now (Err f) → FlushesFor contents write_failures old mid f → Lasts mid (Err f)
  answers_lost Read t sent = (record { taken = t.0; wants = rw is t.1; stands = t.2; idle = refl; same = refl }, sent)
  answers_lost Memory t sent = (record { taken = t.0; asks = rw is t.1; has_handed = t.2; idle = refl; same = refl }, sent)
  answers_lost Write t sent = inl (record { taken = t.0; has_handed = t.2; idle = refl; same = refl }, sent)
