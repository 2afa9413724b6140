-- How the whole command ends, from what its steps did.
use Rattle.{grep_utility.proofs.Prelude.{◌≡◌, ℕ, nat_lt, ◌≤◌, Bool, true, false, List, [], ◌∷◌, Ok, Err, MatchBool, ◌⊎◌, inl, inr, length, refl, arith, Option, ltb-false, false≢true, the_type, FaultKind, Syntax, PatternFault, Text, Steps, Matcher, IsOutOfMemory, expressions_of, Expression, Options, IsSameChoice, Writer, Devices, count_more, UsageFault, ReportsLines, GivesUp, SearchEnds, RefusesPattern, SearchesNamed, ReturnedAfter, DoesForRequest, CommandGives, Folder, sources_named, searched, IsPrepared, IsDue, HasNumber, due_text, CommandFault, TooMany, Refused, most_patterns, IsFirstRefused, folder_after_all, GivePatterns, too_many_patterns, fault_text, usage_texts, Asked, read, OrMemory, FirstUnread, StopsFor}, re_syntax.specs.declared.fault.FaultKind.TheVariants.Memory, grep_core.proofs.lemmas.{SameChoice.RunGives-same, GivenLaws.RunGives-given}}
use denote.Enum.Bare.{sameb}
use Rattle.grep_utility.specs.declared.words.UsageFault.TheVariants as usage
use Rattle.grep_utility.specs.declared.prepare.CommandFault.TheVariants as due
use Rattle.grep_core.specs.Reading.{Source as FileSource}

-- a kind of fault that fails the test for out of memory is another kind
pub kind_differs : (kind : FaultKind) (test : Bool) → test ≡ sameb the_type kind Memory → test ≡ false → kind ≡ Memory → ⊥
kind_differs kind test is fails same = false≢true (cc)

-- a fault of patterns other than out of memory is that of the first refused pattern
pub not_memory : (syntax : Syntax) (fold : Bool) (texts : List Text) (place : ℕ) (fault : PatternFault) → (fault.kind ≡ Memory → ⊥) → IsOutOfMemory fault ⊎ IsFirstRefused syntax fold texts place fault
    → IsFirstRefused syntax fold texts place fault
not_memory syntax fold texts place fault differs (inl is) = absurd (differs (rw is))
not_memory syntax fold texts place fault differs (inr first) = first

-- a search for expressions that are the same choice as others, and no more, is one for these
served : (options : Options) (sources : List FileSource) (given : List (Option Text) → Type 0) (old new : Devices) (status : ℕ) (ds es : List Expression) → IsSameChoice ds es → length ds ≤ length es → SearchEnds ds options sources given old new status → SearchEnds es options sources given old new status
served options sources given old new status ds es same fewer s = record { found = s.found; between = s.between; runs = RunGives-same options ds es same fewer sources given old s.between s.found s.runs; ends = s.ends }

-- the same where more is said of what readers had left
pub given_ends : (options : Options) (sources : List FileSource) (given other : List (Option Text) → Type 0) → ((left : List (Option Text)) → given left → other left) → (old new : Devices) (status : ℕ) (es : List Expression)
    → SearchEnds es options sources given old new status → SearchEnds es options sources other old new status
given_ends options sources given other more old new status es e = record { found = e.found; between = e.between; runs = RunGives-given es options sources given other more old e.between e.found e.runs; ends = e.ends }

-- ---- before the search

-- what stops the reading of patterns ends the command
module _ (asked : Asked) (folder : Folder) (before after : ℕ) where
  pub stops_due : (fault : CommandFault) → StopsFor (FirstUnread folder asked.sources) before after fault → IsDue asked folder before after fault
  stops_due (due.Missing word) h = h
  stops_due (due.Broken word) h = h
  stops_due due.Memory h = h
  stops_due TooMany h = absurd h
  stops_due (Refused place fault) h = absurd h

  -- the number of the first refused pattern can be written
  pub is_numbered : (fault : CommandFault) → IsDue asked folder before after fault → HasNumber fault
  is_numbered (due.Missing word) h = tt
  is_numbered (due.Broken word) h = tt
  is_numbered due.Memory h = tt
  is_numbered TooMany h = tt
  is_numbered (Refused place fault) (texts, gives, few, first, same) = omega (arith, ltb-false most_patterns (length texts) few, first.in_texts)

module _ (folder : Folder) (given : List (Option Text) → Type 0) (words : List Text) (asked : Asked) (is : read words ≡ Ok asked) where
  -- the words were read
  words_read : (old new : Devices) (status : ℕ) → DoesForRequest folder given old new status asked → CommandGives folder given old new status words
  words_read old new status does = inl (rw is does)

  module _ (out old new : Writer) (before after : ℕ) (steps : Steps) where
    abbrev first : Devices
    first = record { out = out; messages = old; source_failures = before; steps = steps }

    abbrev last : Devices
    last = record { out = out; messages = new; source_failures = after; steps = steps }

    reports : (texts : List Text) (failures : ℕ) → ReportsLines old new texts → after ≡ count_more before failures → GivesUp first last texts failures 2
    reports texts failures reported counted = record { is_error = refl; none_written = refl; reported = reported; counted = counted; no_step = refl }

    -- some sources of patterns were read
    by_count : (texts : List Text) → GivePatterns folder asked.sources texts → (many : Bool) → nat_lt most_patterns (length texts) ≡ many
        → MatchBool many (GivesUp first last (too_many_patterns ∷ []) 0 2) (RefusesPattern asked (folder_after_all folder asked.sources) texts (ReturnedAfter asked.sources given) first last 2 ⊎ SearchesNamed asked (folder_after_all folder asked.sources) texts (ReturnedAfter asked.sources given) first last 2)
        → CommandGives folder given first last 2 words
    by_count texts gives many count does =
        words_read first last 2
        (inr (texts, gives, rw count does))

    -- the command ends before its search
    pub ends_before : (fault : CommandFault) → IsDue asked folder before after fault → ReportsLines old new (due_text fault ∷ []) → CommandGives folder given first last 2 words
    ends_before (due.Missing word) h reported = words_read first last 2 (inl (_, h.1, reports _ h.0 reported h.2))
    ends_before (due.Broken word) h reported = words_read first last 2 (inl (_, h.1, reports _ h.0 reported h.2))
    ends_before due.Memory h reported = inr (reports _ 0 reported h)
    ends_before TooMany (texts, gives, many, same) reported = by_count texts gives true many (reports _ 0 reported same)
    ends_before (Refused place fault) (texts, gives, few, first_refused, same) reported = by_count texts gives _ few (inl (record { place = place; fault = fault; is_first = first_refused; gives_up = reports _ 0 reported same }))

  -- ---- the search

  -- the files were searched, of which this is known once the patterns were read
  pub ends_after : (mid : Folder) (matchers : List Matcher) → IsPrepared asked folder mid matchers → (beyond : List (Option Text) → Type 0) → ((left : List (Option Text)) → beyond left → ReturnedAfter asked.sources given left)
      → (old new : Devices) (status : ℕ) → SearchEnds (expressions_of matchers) asked.options (sources_named mid (searched asked.files)) beyond old new status → CommandGives folder given old new status words
  ends_after mid matchers p beyond join old new status h =
      let later = folder_after_all folder asked.sources in
      let rest = ReturnedAfter asked.sources given in
      let there = rw p.used at h in
      let known = given_ends asked.options (sources_named later (searched asked.files)) beyond rest join old new status (expressions_of matchers) there in
      let meant = served asked.options (sources_named later (searched asked.files)) rest old new status (expressions_of matchers) p.serve.es p.serve.same p.serve.fewer known in
      let searches : SearchesNamed asked later p.texts rest old new status = record { readable = p.serve.readable; es = p.serve.es; are_meant = p.serve.meant; ends = meant } in
      words_read old new status
      (inr (p.texts, p.are_texts, rw p.few (inr searches)))

module _ (folder : Folder) (given : List (Option Text) → Type 0) (words : List Text) (old new : Devices) (status : ℕ) where
  words_fault : (fault : UsageFault) → read words ≡ Err fault → GivesUp old new (usage_texts fault) 0 status → CommandGives folder given old new status words
  words_fault fault is h =
      inl (rw is h)

  -- they were not
  pub words_refused : (fault : UsageFault) → OrMemory fault (read words ≡ Err fault) → GivesUp old new (usage_texts fault) 0 status → CommandGives folder given old new status words
  unfolding fault_text
  words_refused usage.Memory is h = inr h
  words_refused (usage.UnknownOption c) is h = words_fault _ is h
  words_refused (usage.MissingArgument c) is h = words_fault _ is h
  words_refused (usage.BadNumber c) is h = words_fault _ is h
  words_refused usage.TwoSyntaxes is h = words_fault _ is h
  words_refused usage.NoPattern is h = words_fault _ is h
