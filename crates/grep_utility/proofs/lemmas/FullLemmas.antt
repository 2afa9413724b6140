-- A command that searches known sources, whose count of failures says that no read failed.
use Rattle.{grep_utility.{proofs.{Prelude.{◌≡◌, ℕ, zero, suc, ◌+◌, ◌^◌, ◌-◌, ◌<◌, min, nat_lt, false, List, [], ◌∷◌, length, Option, Ok, Err, All, Result, refl, sym, ap, ◌∙◌, arith, append-nil, ◌⊎◌, inl, inr, All-get_or, le-ltb, Appends-nil, Syntax, Text, Expression, list_of, most_patterns, IsReadable, Options, Status, RunFault, Write, MessageWrite, one_more, AreMeant, IsFirstRefused, Out, Messages, StatusOf, Source, Reading, Writer, Devices, TakesAll, files_of, count_more, RunGives, Finishes, status_number, ReportsLines, GivesUp, EndsAfter, SearchesNamed, RefusesPattern, DoesForPatterns, ReturnedAfter, DoesForRequest, CommandGives, Folder, sources_named, searched, in_full, ReportsMemory, Wrote, Predicts, FailuresAre, FirstUnread, out_of_memory, Asked, PatternsFrom, list, read}, lemmas.{CommandLemmas.given_ends, KnownLemmas.all_in_full}}, specs.Patterns.Unread}, grep_core.{specs.declared.status.RunFault.TheVariants.Memory, proofs.lemmas.{WriterLaws.TakesAll-more, LawsHold.means_one, Determined.{Out-determined, Messages-determined, StatusOf-determined}}}}

-- a count that begins at 0 is the number of failures, where it is less than the greatest
pub few_counted : (n m : ℕ) → m ≡ count_more 0 n → m < 2 ^ 64 - 1 → n ≡ m
few_counted zero m is few = sym is
few_counted (suc n) m is few =
    let one : m ≡ min (count_more 0 n + 1) (2 ^ 64 - 1) = is in
    let before = few_counted n (count_more 0 n) refl (omega arith) in
    omega arith

-- a failure that was counted is no 0
some_failed : (n m : ℕ) → m ≡ one_more n → m ≡ 0 → ⊥
some_failed n m is none = let one : m ≡ min (n + 1) (2 ^ 64 - 1) = is in omega arith

-- the message was told, since no write failed
reports_memory : (old between new : Writer) (reported : List Text) → TakesAll old between reported → ReportsLines between new (out_of_memory ∷ []) → new.failures ≡ 0 → ReportsMemory old new
reports_memory old between new reported before (inl all) none = (reported, TakesAll-more old between new reported (out_of_memory ∷ []) before all)
reports_memory old between new reported before (inr front) none = absurd (some_failed between.failures _ front.1 none)

nothing_reported : (w : Writer) → TakesAll w w []
nothing_reported w = record { written_all = Appends-nil w.contents; none_failed = refl }

-- what the command gives where its pattern list is known, and its counts tell how the files were
-- read
module _ (syntax : Syntax) (options : Options) (text : Text) (files : List Text) (few_patterns : nat_lt most_patterns (length (list_of text)) ≡ false)
    (readable : All (IsReadable syntax options.ignore_case) (list_of text)) (es : List Expression) (are_meant : AreMeant syntax options (list_of text) es)
    (folder : Folder) (readings : List Reading) (output messages : List Text) (found : Status) (is_output : Out es options (files_of (sources_named folder (searched files)) readings) output)
    (are_messages : Messages es options (files_of (sources_named folder (searched files)) readings) messages) (is_status : StatusOf es options (files_of (sources_named folder (searched files)) readings) found)
    (given : List (Option Text) → Type 0) (old new : Devices) (status : ℕ)
    (determined : (between : Devices) (s : Status) (h : Finishes es options (sources_named folder (searched files)) given old between s) → new ≡ between → h.story.readings ≡ readings)
    (out_kept : new.out.failures ≡ 0) (messages_kept : new.messages.failures ≡ 0) where
  abbrev asked_for : Asked
  asked_for = record { syntax = syntax; options = options; sources = list text ∷ []; files = files }

  abbrev Gives : Type 0
  Gives = Wrote output messages found old new status ⊎ ReportsMemory old.messages new.messages

  abbrev sources : List Source
  sources = sources_named folder (searched files)

  finishes : (between : Devices) (s : Status) → Finishes es options sources given old between s → (status ≡ status_number s) → new ≡ between → Wrote output messages found old new status
  finishes between s h is same =
      let full = determined between s h same in
      let output_is = Out-determined es options (files_of sources readings) h.wrote.text output (rw full at h.wrote.due) is_output in
      let messages_are = Messages-determined es options (files_of sources readings) h.reported.text messages (rw full at h.reported.due) are_messages in
      let found_is = StatusOf-determined es options (files_of sources readings) s found (rw full at h.is_status) is_status in
      record {
        wrote = rw same (rw output_is at h.wrote.all);
        reported = rw same (rw messages_are at h.reported.all);
        is_status = cc;
      }

  run_ends : (between : Devices) (result : Result Status RunFault) → RunGives es options sources given old between result → EndsAfter result between new status → Gives
  run_ends between (Ok s) h e = inl (finishes _ s h e.0 e.1)
  run_ends between (Err Write) h e = absurd (some_failed old.out.failures _ h.1 (sym (rw e.none_written) ∙ out_kept))
  run_ends between (Err MessageWrite) h e = absurd (some_failed old.messages.failures _ h.2 (sym (rw e.1) ∙ messages_kept))
  run_ends between (Err (Memory k n)) h e = inr (reports_memory _ _ new.messages _ h.reported.all e.reported messages_kept)

  out_of : GivesUp old new (out_of_memory ∷ []) 0 status → Gives
  out_of h = inr (reports_memory _ _ new.messages [] (nothing_reported _) h.reported messages_kept)

  none_refused : (place : ℕ) (fault : _) → IsFirstRefused syntax options.ignore_case (list_of text) place fault → ⊥
  none_refused place fault first = first.unreadable (All-get_or (IsReadable syntax options.ignore_case) (list_of text) place [] first.in_texts readable)

  -- a list has no reader
  abbrev After : List (Option Text) → Type 0
  After = ReturnedAfter (list text ∷ []) given

  as_given : (left : List (Option Text)) → After left → given left
  as_given left (before, none, h) = rw none at h

  named : SearchesNamed asked_for folder (list_of text) After old new status → Gives
  named h =
      let same = means_one syntax options (list_of text) h.es es h.are_meant are_meant in
      let e = rw same at (given_ends options _ After given as_given _ _ _ _ h.ends) in
      run_ends e.between e.found e.runs e.ends

  for_patterns : DoesForPatterns asked_for folder (list_of text) After old new status → Gives
  for_patterns h = chosen (rw few_patterns at h)
    where
      chosen : RefusesPattern asked_for folder (list_of text) After old new status ⊎ SearchesNamed asked_for folder (list_of text) After old new status → Gives
      chosen (inl refused) = absurd (none_refused _ _ refused.is_first)
      chosen (inr h) = named h

  for_request : DoesForRequest folder given old new status asked_for → Gives
  for_request (inl h) = none_unread h.0 h.1
    where
      none_unread : (unread : Unread) → FirstUnread folder (list text ∷ []) unread → Gives
      none_unread unread (inl is) = absurd (cc)
      none_unread unread (inr h) = absurd h.2
  for_request (inr h) =
      let first : h.1.0 ≡ list_of text = cc h.1.2 in
      let texts_are : h.0 ≡ list_of text = cc (h.1.4, h.1.3, append-nil (list_of text)) in
      for_patterns (rw texts_are at h.2)

  -- all is written as for files that are read in full, unless memory runs out
  pub command_gives : (words : List Text) → read words ≡ Ok asked_for → CommandGives folder given old new status words → Gives
  command_gives words is (inr h) = out_of h
  command_gives words is (inl h) = for_request (rw is at h)

-- what is foretold is given
pub predicted : (folder : Folder) (words output messages : List Text) (missing : ℕ) (found : Status) → Predicts folder words missing output messages found → (given : List (Option Text) → Type 0) (old new : Devices) (status : ℕ)
    → CommandGives folder given old new status words → FailuresAre missing old new → Wrote output messages found old new status ⊎ ReportsMemory old.messages new.messages
predicted folder words output messages missing found f given old new status h n =
    let a = f.asked in
    let sum = f.are_missing in
    command_gives a.syntax a.options f.text a.files (le-ltb most_patterns (length (list_of f.text)) f.few_patterns) f.readable f.es f.are_meant folder (in_full (sources_named folder (searched a.files))) output messages found f.is_output f.are_messages f.is_status given old new status
    (λ between s run same.
    let many = few_counted run.story.failures missing (cc (n.counted, run.story.counted, n.from_none)) n.few in
    all_in_full f.es a.options f.loud f.all_lines (sources_named folder (searched a.files)) _ run.story.failures f.known run.story.are_readings run.story.are_failures (omega arith))
    n.output_kept n.messages_kept words (f.is_read ∙ ap (λ (s : List PatternsFrom). Ok (record a { sources = s })) f.one_list) h
