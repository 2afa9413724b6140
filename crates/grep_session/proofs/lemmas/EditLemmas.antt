-- How an edit changes a session's inputs, and what is kept.
use Rattle.{grep_session.proofs.{Prelude.{◌≡◌, ◌≢◌, ℕ, ◌+◌, ◌<◌, ◌≤◌, List, [], ◌++◌, length, map, take, drop, Option, Some, None, Ok, IfSome, inl, inr, refl, sym, ap, subst, ◌∙◌, All, get_or, slice_set, arith, set, map-set_same, map-set, length-map, All-append, All-take, All-drop, All-set, splice, option_map, Syntax, Text, Expression, HasNoNewline, Matcher, matched_expression, wants_whole, Steps, Options, File, Inputs, whole, missing, file_at, most_patterns, KeptFile, Inside, AreSame, anew, SearchesEach, IsSession, inputs_of, AreFit, KeptLine, line_text, AddFile, Splice, Applies, spliced, with_files, IsKept, IsFileKept, kept_file, kept_lines, file_with, AreMatchers, HasPlace, TakesSteps, NeedsNoMemory, KeepAtMost, lost}, lemmas.{FitLemmas.{fit_as, fit_lose}, RoomLemmas.keep_same, StepLemmas.takes_lines, SessionLemmas.map-splice}}, std.proofs.lemmas.List.get_or-map, grep_core.proofs.lemmas.CostLaws.same_length}

-- ---- matchers

-- matchers with the same expressions are those of the same patterns
pub AreMatchers-same : (syntax : Syntax) (options : Options) (texts : List Text) (old new : List Matcher) → AreMatchers syntax options texts old → map matched_expression new ≡ map matched_expression old → map wants_whole new ≡ map wants_whole old
    → AreMatchers syntax options texts new
AreMatchers-same syntax options texts old new s e w = record {
  meant = rw e s.meant;
  wholes = rw w s.wholes;
  readable = s.readable;
  counted = same_length matched_expression new old e ∙ s.counted;
}

-- a session whose matchers were asked, and whose files are as right as before, with marks that fit
pub asked_session : (s t : Inside) → t ≡ record s { texts = t.texts; matchers = t.matchers; files = t.files; marks = t.marks } → t.texts.items ≡ s.texts.items → IsSession s → AreSame s.matchers.items t.matchers.items
    → All (IsFileKept (map matched_expression s.matchers.items) s.options) t.files.items → AreFit (map kept_file t.files.items) t.marks.items → IsSession t
asked_session s t is texts old same kept fit = rw is (record {
  matchers = rw texts (AreMatchers-same _ _ _ _ _ old.matchers same.same_expressions same.same_wholes);
  few = rw (same_length matched_expression _ _ same.same_expressions) old.few;
  kept = rw same.same_expressions kept;
  rooms = keep_same _ _ _ same.same_rooms old.rooms;
  some_states = old.some_states;
  few_states = old.few_states;
  fit = fit;
})

-- nothing of its files and marks changed
pub left_session : (s t : Inside) → t ≡ record s { texts = t.texts; matchers = t.matchers; files = t.files; marks = t.marks } → t.texts.items ≡ s.texts.items → IsSession s → AreSame s.matchers.items t.matchers.items → t.files.items ≡ s.files.items → t.marks.items ≡ s.marks.items → IsSession t
left_session s t is texts old same files marks =
    asked_session s t is texts old same (rw files old.kept) (fit_as _ _ _ _ (rw files) marks old.fit)

-- a session with other patterns, after all was searched that these ask for
pub searched_session : (s t : Inside) (syntax : Syntax) (options : Options) (texts : List Text) (all : List Matcher) → t ≡ record s { syntax = syntax; options = options; texts = t.texts; matchers = t.matchers; files = t.files; marks = t.marks } → map (λ text. text.items) t.texts.items ≡ texts → IsSession s
    → AreMatchers syntax options texts all → length all ≤ most_patterns → KeepAtMost s.states all → AreSame all t.matchers.items → All (IsFileKept (map matched_expression t.matchers.items) options) t.files.items → map kept_file t.files.items ≡ map kept_file s.files.items
    → t.marks.items ≡ map lost s.marks.items → IsSession t
searched_session s t syntax options texts all is read old made few rooms same kept files marks = rw is (record {
  matchers = rw read (AreMatchers-same _ options _ _ _ made same.same_expressions same.same_wholes);
  few = rw (same_length matched_expression _ _ same.same_expressions) few;
  kept = kept;
  rooms = keep_same _ _ _ same.same_rooms rooms;
  some_states = old.some_states;
  few_states = old.few_states;
  fit = fit_lose (map kept_file s.files.items) _ s.marks.items _ files marks old.fit;
})

-- ---- lines that are replaced

pub applies_splice : (old : Inputs) (k start count : ℕ) (lines : List Text) → HasPlace old.files k start count → All HasNoNewline lines → Applies (Splice k start count lines) old (Ok (with_files (spliced old.files k start count lines) old))
applies_splice old k start count lines p none =
    inr ((λ h. absurd (omega arith)), inr (p.opens, inr ((λ h. absurd (omega arith)), inl (none, refl))))

-- the new lines of a splice, and those of a file that is added, were searched
module _ (s : Inside) (old : IsSession s) (lines : List Text) (none : All HasNoNewline lines) (begun ended : Steps) (steps : SearchesEach (anew 0 (length (map matched_expression s.matchers.items))) [] (map matched_expression s.matchers.items) (map matched_expression s.matchers.items) s.options lines begun ended) where
  pub splice_steps : (k start count : ℕ) → HasPlace (inputs_of s).files k start count → TakesSteps (Splice k start count lines) (inputs_of s) begun ended
  splice_steps k start count place =
      takes_lines _ _ _ 0 [] _ _ _ _ (applies_splice _ k _ _ _ place none) refl old.matchers refl steps

  pub file_steps : (name : Text) → TakesSteps (AddFile name lines) (inputs_of s) begun ended
  file_steps name = takes_lines _ _ _ 0 [] _ _ _ _ (inl (none, refl)) refl old.matchers refl steps

-- memory is needed
pub needs_for_lines : (old : Inputs) {k start count : ℕ} {lines : List Text} → HasPlace old.files k start count → (lines ≡ [] → ⊥) → NeedsNoMemory (Splice k start count lines) old → ⊥
needs_for_lines old place some (inl empty) = some empty
needs_for_lines old place some (inr nowhere) = nowhere place

module _ (start count : ℕ) (new : List KeptLine) where
  -- the lines of a file after the splice
  abbrev pub put : Option (List KeptLine) → Option (List KeptLine)
  put lines = option_map (λ l. splice l start (start + count) new) lines

  file_put : (name : Text) (lines : Option (List KeptLine)) → (file_with name lines).ending ≢ missing
      → file_with name (put lines) ≡ record (file_with name lines) { lines = splice (file_with name lines).lines start (start + count) (map line_text new) }
  file_put name None opens = absurd (opens refl)
  file_put name (Some lines) opens = ap (λ l. record { name = name; lines = l; ending = whole }) (map-splice line_text lines (splice lines start (start + count) new) new start (start + count) refl)

  -- the files after lines of one of them were replaced
  pub files_put : (files : List KeptFile) (k : ℕ) (d file : KeptFile) → k < length files → file.name.items ≡ (get_or files k d).name.items → kept_lines file ≡ put (kept_lines (get_or files k d)) → (file_at (map kept_file files) k).ending ≢ missing
      → map kept_file (set files k file) ≡ spliced (map kept_file files) k start count (map line_text new)
  files_put files k d file within name lines opens =
      let old = get_or files k d in
      let at = get_or-map kept_file files k d (record { name = []; lines = []; ending = missing }) within in
      let one : kept_file file ≡ record (kept_file old) { lines = splice (kept_file old).lines start (start + count) (map line_text new) } =
      (λ i. file_with (name i) (lines i)) ∙ file_put old.name.items (kept_lines old) (subst (λ (f : File). f.ending ≢ missing) at opens) in
      map-set kept_file files k file ∙ ap (λ f. slice_set (map kept_file files) k f) (one ∙ ap (λ (f : File). record f { lines = splice f.lines start (start + count) (map line_text new) }) (sym at))

  -- what is kept of the lines stays right
  pub kept_put : (es : List Expression) (options : Options) (lines : Option (List KeptLine)) → IfSome lines (All (IsKept es options)) → All (IsKept es options) new → IfSome (put lines) (All (IsKept es options))
  kept_put es options None h n = tt
  kept_put es options (Some lines) h n =
      All-append (IsKept es options) (take start lines) (new ++ drop (start + count) lines) (All-take (IsKept es options) start lines h) (All-append (IsKept es options) new (drop (start + count) lines) n (All-drop (IsKept es options) (start + count) lines h))

-- the files after lines of file `k`, which is `d`, were replaced
pub files_spliced : (start count : ℕ) (new : List KeptLine) (files : List KeptFile) (k : ℕ) (d file : KeptFile) → HasPlace (map kept_file files) k start count → d ≡ get_or files k d → file.name ≡ d.name → kept_lines file ≡ put start count new (kept_lines d)
    → map kept_file (set files k file) ≡ spliced (map kept_file files) k start count (map line_text new)
files_spliced start count new files k d file place at name lines =
    files_put start count new files k d file (omega (arith, length-map files kept_file)) (ap (λ n. n.items) name ∙ ap (λ (f : KeptFile). f.name.items) at)
    (lines ∙ ap (λ (f : KeptFile). put start count new (kept_lines f)) at) place.opens

-- putting a file with the same name and lines in its place changes nothing
pub files_same : (files : List KeptFile) (k : ℕ) (d file : KeptFile) → file.name.items ≡ (get_or files k d).name.items → kept_lines file ≡ kept_lines (get_or files k d) → map kept_file (set files k file) ≡ map kept_file files
files_same files k d file name lines = map-set_same kept_file files k file d (λ i. file_with (name i) (lines i))

-- a place among the files that contracts see is one among those that are kept
pub in_kept : (files : List KeptFile) (k : ℕ) → k < length (map kept_file files) → k < length files
in_kept files k h = omega (arith, length-map files kept_file)

-- what is kept of the files stays right if it does so for the changed one
pub files_kept : (es : List Expression) (options : Options) (files : List KeptFile) (k : ℕ) (file : KeptFile) (lines : Option (List KeptLine)) → All (IsFileKept es options) files → kept_lines file ≡ lines → IfSome lines (All (IsKept es options)) → All (IsFileKept es options) (set files k file)
files_kept es options files k file lines all same kept = All-set (IsFileKept es options) files k file (rw same kept) all
