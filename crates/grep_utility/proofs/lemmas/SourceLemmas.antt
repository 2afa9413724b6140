-- The sources of patterns, one more at a time.
use Rattle.{grep_utility.{proofs.{Prelude.{◌≡◌, ℕ, suc, ◌+◌, ◌<◌, true, false, List, [], ◌∷◌, ◌++◌, Option, Ok, Err, IfSome, inl, inr, length, map, drop, get_or, refl, sym, ap, ◌∙◌, subst, append_assoc, append-nil, add-one, drop-cons, Text, newline, list_of, joined, terminated, AreListed, whole, broken, StandsFor, IsReadingOf, file_of, failures_of, count_more, PatternSource, CommandFault, Folder, GivesPatterns, folder_after, folder_after_all, GivePatterns, FirstUnread, Adds, AddsLines, AddsSource, StopsFor, PatternsFrom, list, file, given_source}, lemmas.CollectingLemmas.Adds-trans}, specs.{Working.CollectedTexts.StopsBy, Patterns.{FileGives, Unread, OneReaderEach}}}, re_syntax.{specs.Lines.lines_of, proofs.lemmas.LinesLaws.{lines_of-terminated, AreListed-list_of}}, grep_core.{proofs.lemmas.{OneFile.whole-failures, OpenedLemmas.{opened, count_on, few_failures}}, specs.Messages.read_error}}
use Rattle.grep_core.specs.Reading as reading
use Rattle.grep_utility.specs.declared.prepare.CommandFault.TheVariants as fault

-- ---- a file

module _ {R : Type 0} (remaining : R → Option Text) (failures : R → ℕ) (source : reading.Source) (reader read : R) (opens : IfSome source.opens (λ b. b ≡ true))
    (bytes : remaining reader ≡ source.bytes) (fresh : failures reader ≡ 0) (before after : ℕ) (counted : after ≡ count_more before (failures read)) where
  gave : (lines : List Text) (ending : _) → StandsFor source.name (remaining reader) (remaining read) (failures reader) (failures read) lines ending
      → (did : reading.Reading) × IsReadingOf source did × (file_of source.name did ≡ record { name = source.name; lines = lines; ending = ending }) × (after ≡ count_more before (failures_of did))
  gave lines ending s = (
    s.reading,
    opened source s.reading opens (rw bytes at s.is_reading),
    s.file,
    counted ∙ ap (count_more before) (cc s.counted) ∙ count_on before (failures_of s.reading) (few_failures s.reading),
  )

  -- all its lines were added
  pub file_whole : (old new : Text) → AddsLines (remaining reader) (remaining read) (failures reader) (failures read) old new true → ((texts : List Text) × FileGives source (Ok texts) × Adds old new texts) × (after ≡ before)
  file_whole old new h =
      let did = gave h.texts whole (h.stands source.name) in
      let none = whole-failures source.name did.0 (rw did.2) in
      ((h.texts, (did.0, did.1, sym (rw did.2)), h.adds), did.3 ∙ ap (count_more before) none)

  -- not all of them
  pub file_broken : (old new : Text) → AddsLines (remaining reader) (remaining read) (failures reader) (failures read) old new false → StopsBy (λ unread. FileGives source (Err unread)) before after (read_error source.name)
  file_broken old new h =
      let did = gave h.texts broken (h.stands source.name) in
      (failures_of did.0, (did.0, did.1, sym (rw did.2)), did.3)

-- ---- a list

terminated-joined : (t : Text) (ts : List Text) → terminated (t ∷ ts) ≡ joined (t ∷ ts) ++ newline ∷ []
terminated-joined t [] = refl
terminated-joined t (u ∷ ts) = cc (terminated-joined u ts, append_assoc t (newline ∷ joined (u ∷ ts)) (newline ∷ []))

-- the patterns of a list, each followed by a newline, are its bytes and one newline
terminated-list : (text : Text) (ts : List Text) → AreListed text ts → terminated ts ≡ text ++ newline ∷ []
terminated-list text [] h = absurd (h.1 refl)
terminated-list text (t ∷ ts) h = cc (terminated-joined t ts, h.2)

-- its patterns were added
pub list_added : (folder : Folder) (old new text : Text) → new ≡ old ++ (text ++ newline ∷ []) → AddsSource folder (list text) old new
list_added folder old new text is =
    let listed = AreListed-list_of text in
    (list_of text, refl, record { bytes = cc (terminated-list text (list_of text) listed); no_newlines = listed.0 })

-- ---- all sources

-- the patterns of all sources are the texts so far and those of the sources that are left
pub record SourcesSoFar (start : Folder) (all : List PatternsFrom) (now : Folder) (left : List PatternsFrom) (bytes : Text) : Type 0 where
  pub texts : List Text
  pub adds : Adds [] bytes texts
  pub give : (more : List Text) → GivePatterns now left more → GivePatterns start all (texts ++ more)
  pub stop : (unread : Unread) → FirstUnread now left unread → FirstUnread start all unread
  pub used : folder_after_all now left ≡ folder_after_all start all

module _ (start : Folder) (all : List PatternsFrom) (now : Folder) (source : PatternsFrom) (left : List PatternsFrom) (bytes : Text) (s : SourcesSoFar start all now (source ∷ left) bytes) where
  -- one more source was read
  pub sources_more : (after : Text) → AddsSource now source bytes after → SourcesSoFar start all (folder_after now source) left after
  sources_more after h = record {
    texts = s.texts ++ h.0;
    adds = Adds-trans [] bytes after s.texts h.0 s.adds h.2;
    give = λ more k. rw (append_assoc s.texts h.0 more) (s.give (h.0 ++ more) (h.0, more, h.1, k, refl));
    stop = λ unread k. s.stop unread (inr (h.0, h.1, k));
    used = s.used;
  }

  -- the next is not read
  pub sources_stop : (before mid after : ℕ) → mid ≡ before → (f : CommandFault) → StopsFor (λ unread. GivesPatterns now source (Err unread)) mid after f → StopsFor (FirstUnread start all) before after f
  sources_stop before mid after same (fault.Missing word) h = (h.0, s.stop _ (inl h.1), h.2 ∙ ap (λ n. count_more n h.0) same)
  sources_stop before mid after same (fault.Broken word) h = (h.0, s.stop _ (inl h.1), h.2 ∙ ap (λ n. count_more n h.0) same)
  sources_stop before mid after same fault.Memory h = h ∙ same
  sources_stop before mid after same fault.TooMany h = absurd h
  sources_stop before mid after same (fault.Refused place f) h = absurd h

-- what its readers had left is followed by what those of the others had
pub each_more : (source : PatternsFrom) (sources : List PatternsFrom) (own others : List (Option Text)) → OneReaderEach (source ∷ []) own → OneReaderEach sources others → OneReaderEach (source ∷ sources) (own ++ others)
each_more (list text) sources own others none h = rw none h
each_more (file name) sources own others (rest, more, none, is) h = (rest, others, h, ap (λ l. l ++ others) is ∙ ap (λ l. rest ∷ (l ++ others)) none)

-- all were read
pub sources_all : (start : Folder) (all : List PatternsFrom) (now : Folder) (bytes : Text) → SourcesSoFar start all now [] bytes → GivePatterns start all (lines_of bytes)
sources_all start all now bytes s =
    subst (GivePatterns start all) (append-nil s.texts ∙ sym (ap lines_of s.adds.bytes ∙ lines_of-terminated s.texts s.adds.no_newlines)) (s.give [] refl)

-- the next of the sources that are left
pub next_source : (sources : List PatternSource) (k : ℕ) (source : PatternSource) → k < length sources → source ≡ get_or sources k source
    → map given_source (drop k sources) ≡ given_source source ∷ map given_source (drop (k + 1) sources)
next_source sources k source h is =
    ap (map given_source) (drop-cons sources k source h) ∙ ap (λ s. given_source s ∷ map given_source (drop (suc k) sources)) (sym is)
    ∙ ap (λ n. given_source source ∷ map given_source (drop n sources)) (sym (add-one k))
