-- A command on a file with a failed read, worked by hand.
use Rattle.{grep_utility.proofs.{Prelude.{◌≡◌, ℕ, true, false, List, [], ◌∷◌, Option, Some, Ok, refl, sym, subst, arith, ◌⊎◌, inl, inr, codes, false≢true, All-nil, All-cons, Basic, Text, byte, list_of, ended_lines_of, IsReadable, Options, no_options, Error, File, broken, HasSelected, FaultMet, Messages, StatusOf, Out, Source, Reading, fails_after, Steps, Writer, devices, Devices, files_of, Finishes, CommandGives, Folder, sources_named, FailuresAre, Wrote, ReportsMemory, HasReturned, list, read, word_of, meaning_of, broken_words, broken_text, broken_output, broken_messages, BrokenFollows}, lemmas.{FullLemmas.{few_counted, command_gives}, KnownLemmas.one_broken, WorkedLemmas.{es, a_meant, selected_a, not_selected, not_quiet}}}, std.specs.{Str.chars, Fmt.digits}, re_syntax.proofs.lemmas.Decisions.Any-first}

abbrev broken_options : Options
broken_options = record no_options { line_number = true }

broken_read : read broken_words ≡ Ok (record { syntax = Basic; options = broken_options; sources = list (codes "a") ∷ []; files = codes "f" ∷ [] })
unfolding word_of meaning_of chars
broken_read = refl

abbrev broken_file : File
broken_file = record { name = codes "f"; lines = codes "a" ∷ codes "b" ∷ []; ending = broken }

broken_out : Out es broken_options (broken_file ∷ []) broken_output
unfolding digits
broken_out = (
  broken_output,
  [],
  (
    (1, codes "a") ∷ [],
    ((1, codes "a") ∷ [], [], inl (selected_a, refl), ([], [], inr (not_selected 98 refl, refl), refl, refl), refl),
    refl,
  ),
  refl,
  refl,
)

fault_met : FaultMet es broken_options broken_file
fault_met asks = absurd (false≢true asks)

broken_reported : Messages es broken_options (broken_file ∷ []) broken_messages
broken_reported = (broken_file ∷ [], ([], refl, inr (not_quiet (HasSelected es broken_options broken_file), refl)), (broken_messages, [], inl (fault_met, refl), refl, refl))

broken_status : StatusOf es broken_options (broken_file ∷ []) Error
broken_status = inr (not_quiet _, inl (Any-first (FaultMet es broken_options) broken_file [] fault_met, refl))

module _ (folder : Folder) (opens : folder.opens (codes "f") ≡ Some true) (bytes : folder.bytes (codes "f") ≡ Some broken_text) where
  abbrev broken_sources : List Source
  broken_sources = sources_named folder (codes "f" ∷ [])

  abbrev did : List Reading
  did = fails_after broken_text ∷ []

  are_files : files_of broken_sources did ≡ broken_file ∷ []
  unfolding ended_lines_of
  are_files = refl

  module _ (given : List (Option Text) → Type 0) (reported_too : (left : List (Option Text)) → given left → HasReturned 1 1 left) (old new : Devices) (status : ℕ) (counts : FailuresAre 1 old new) where
    determined : (between : Devices) (s : _) (h : Finishes es broken_options broken_sources given old between s) → new ≡ between → h.story.readings ≡ did
    determined between s h same =
        let once =
        few_counted h.story.failures 1 (cc (counts.counted, h.story.counted, counts.from_none)) counts.few in
        one_broken es broken_options refl refl (record { name = codes "f"; opens = folder.opens (codes "f"); bytes = folder.bytes (codes "f") }) broken_text opens bytes h.story.failures once [] h.story.left (reported_too h.story.left h.story.gave_back) h.story.readings h.story.are_readings h.story.are_failures h.story.are_left

    -- what the command gives, for any history that tells how many readers came back
    pub broken_gives : CommandGives folder given old new status broken_words → Wrote broken_output broken_messages Error old new status ⊎ ReportsMemory old.messages new.messages
    unfolding list_of
    broken_gives h =
        command_gives Basic broken_options (codes "a") (codes "f" ∷ []) refl (All-cons (IsReadable Basic false) (codes "a") [] (byte 97, a_meant, λ _. omega arith) (All-nil (IsReadable Basic false))) es (a_meant, tt)
        folder did broken_output broken_messages Error (subst (λ files. Out es broken_options files broken_output) (sym are_files) broken_out) (subst (λ files. Messages es broken_options files broken_messages) (sym are_files) broken_reported)
        (subst (λ files. StatusOf es broken_options files Error) (sym are_files) broken_status) given old new status determined counts.output_kept counts.messages_kept broken_words broken_read h

-- the row follows
pub broken_follows : BrokenFollows
broken_follows folder opens bytes old new status h counts = broken_gives folder opens bytes (HasReturned 1 1) (λ left back. back) old new status counts h

-- the same for what a call says of its devices
module _ (folder : Folder) (opens : folder.opens (codes "f") ≡ Some true) (bytes : folder.bytes (codes "f") ≡ Some broken_text) where
  pub broken_given : (given : List (Option Text) → Type 0) → ((left : List (Option Text)) → given left → HasReturned 1 1 left) → (out messages new_out new_messages : Writer) (before after : ℕ) (steps new_steps : Steps) (status : ℕ) (words : List Text)
      → before ≡ 0 → words ≡ broken_words → CommandGives folder given (devices out messages before steps) (devices new_out new_messages after new_steps) status words
      → FailuresAre 1 (devices out messages 0 steps) (devices new_out new_messages after new_steps) → Wrote broken_output broken_messages Error (devices out messages 0 steps) (devices new_out new_messages after new_steps) status ⊎ ReportsMemory messages new_messages
  broken_given given reported_too out messages new_out new_messages before after steps new_steps status words at_first same_words h counts =
      broken_gives folder opens bytes given reported_too (devices out messages 0 steps) (devices new_out new_messages after new_steps) status counts (rw (same_words, at_first) at h)
