-- If what is kept is right, the verdicts from it, the messages and the status are those of grep.
use Rattle.{grep_session.proofs.{Prelude.{get_or, ◌≡◌, ℕ, Bool, true, false, ◌&&◌, not, IsTrue, ◌↔◌, Decides, List, [], ◌∷◌, map, All, Any, Option, None, Some, MatchBool, IfSome, refl, sym, ◌∙◌, inl, inr, arith, if◌then◌else◌, list_any, Text, Expression, ArePartsFrom, AreParts, Span, Options, Status, Selected, HasSelected, message, FaultMet, Stops, Message, AnySelected, StatusOf, is_fault, ending_of, status_by, KeptLine, line_text, KeptFile, span_places, kept_lines, file_with, kept_file, IsKept, IsFileKept, matches_none, is_selected, has_selected_in, has_selected, end_with, OnLine, PartsFit, FileFits, is_faulty, any_missing, status_by_files, status_given, false≢true, All-head, All-tail, All-nil, All-cons}, lemmas.NumberLemmas.some_decides}, std.specs.Prelude.⊤, re_syntax.proofs.lemmas.Decisions.{Any-none, Any-first, Any-later, Any-cases}, grep_core.proofs.lemmas.{PassLemmas.or_decides, StatusLaws.{StatusOf-quiet, StatusOf-error, StatusOf-selected, StatusOf-none}, Verdicts.{decided_yes, decided_no}}}
use Rattle.grep_core.specs.declared.status.Status.TheVariants.{Selected as selected}

-- the status of a run that did not stop
pub status_in_turn : (quiet some : Bool) (status : Status) → (quiet && some) ≡ false → status ≡ (if quiet && some then selected else status)
status_in_turn quiet some status e = rw e

-- whether the verdict holds of some element of a mapped list
mapped_reported : {A B : Type 0} (f : A → B) (p : A → Bool) (P : B → Type 0) (K : A → Type 0) → ((x : A) → K x → Decides (p x) (P (f x))) → (xs : List A) → All K xs → Decides (list_any p xs) (Any P (map f xs))
mapped_reported f p P K reported_too [] k = decided_no (Any-none P)
mapped_reported f p P K reported_too (x ∷ xs) k =
    or_decides (p x) (list_any p xs) (reported_too x (All-head K x xs k)) (mapped_reported f p P K reported_too xs (All-tail K x xs k)) (λ h. Any-first P (f x) (map f xs) h) (λ h. Any-later P (f x) (map f xs) h)
    (λ s none_here none_later. elim (Any-cases P (f x) (map f xs) s) [ inl h ↦ none_here h | inr h ↦ none_later h ])

module _ (es : List Expression) (options : Options) where
  pub parts_asked : (line : KeptLine) → IsTrue options.only_matching → IsKept es options line → AreParts es (line_text line) options.line_regexp (map span_places line.found.spans)
  parts_asked line asked k = by_flag options.only_matching asked k.parts
    where
      by_flag : {P : Type 0} (asks : Bool) → IsTrue asks → MatchBool asks P ⊤ → P
      by_flag true is p = p
      by_flag false is p = absurd (false≢true is)

  -- ---- verdicts

  pub selected_reported : (line : KeptLine) → IsKept es options line → Decides (is_selected options line) (Selected es options (line_text line))
  selected_reported line k = by_flag options.invert_match (matches_none line) (some_decides (line_text line) options.line_regexp 0 es line.found.numbers k.matching)
    where
      by_flag : {M : Type 0} (inverted none : Bool) → IsTrue (not none) ↔ M → Decides (if inverted then not (not none) else not none) (MatchBool inverted (M → ⊥) M)
      by_flag false none m = m
      by_flag true true m = decided_yes (λ p. false≢true (m.1 p))
      by_flag true false m = decided_no (λ f. f (m.0 refl))

  pub has_reported : (name : Text) (kept : Option (List KeptLine)) → IfSome kept (All (IsKept es options)) → Decides (has_selected_in options kept) (HasSelected es options (file_with name kept))
  has_reported name None k = decided_no (Any-none (Selected es options))
  has_reported name (Some text) k = mapped_reported line_text (is_selected options) (Selected es options) (IsKept es options) selected_reported text k

  fault_reported : (name : Text) (kept : Option (List KeptLine)) → Decides (is_fault (end_with kept)) (FaultMet es options (file_with name kept))
  fault_reported name None = decided_yes tt
  fault_reported name (Some text) = decided_no (λ h. h)

  pub stops_reported : (file : KeptFile) → IsFileKept es options file → Decides (options.quiet && has_selected options file) (Stops es options (kept_file file))
  stops_reported file k = both options.quiet (has_selected options file) (has_reported file.name.items (kept_lines file) k)
    where
      both : {P : Type 0} (a b : Bool) → Decides b P → Decides (a && b) (IsTrue a × P)
      both true true d = decided_yes (refl, d.0 refl)
      both true false d = decided_no (λ h. false≢true (d.1 h.1))
      both false b d = decided_no (λ h. false≢true h.0)

  -- ---- the parts that are kept are on their line

  parts_fit : (text : Text) (from : ℕ) (spans : List Span) → ArePartsFrom es text options.line_regexp from (map span_places spans) → All (OnLine text) spans
  parts_fit text from [] h = All-nil (OnLine text)
  parts_fit text from (span ∷ spans) h = let some = h.0.found.not_empty in
      All-cons (OnLine text) span spans (omega arith, h.0.found.on_line) (parts_fit text span.end spans h.1)

  lines_fit : (text : List KeptLine) → All (IsKept es options) text → All (PartsFit options) text
  lines_fit text k i d lt asked = let line = get_or text i d in parts_fit (line_text line) 0 line.found.spans (parts_asked line asked (k i d lt))

  file_fits : (kept : Option (List KeptLine)) → IfSome kept (All (IsKept es options)) → IfSome kept (All (PartsFit options))
  file_fits None k = tt
  file_fits (Some text) k = lines_fit text k

  -- if what is kept of files is right, its parts are on their lines
  pub files_fit : (files : List KeptFile) → All (IsFileKept es options) files → All (FileFits options) files
  files_fit files k i d lt = file_fits (kept_lines (get_or files i d)) (k i d lt)

  -- ---- a message, and the status for all files

  pub one_message : (name : Text) (kept : Option (List KeptLine)) → Message es options (file_with name kept) (message (ending_of (end_with kept)) name)
  one_message name None = inl (tt, refl)
  one_message name (Some text) = inr ((λ h. h), refl)

  -- the status is that of the files, where it is known whether some line is selected
  pub given_status : (files : List KeptFile) → All (IsFileKept es options) files → (known : Bool) → Decides known (AnySelected es options (map kept_file files)) → StatusOf es options (map kept_file files) (status_given options files known)
  given_status files k known d =
      by_verdicts options.quiet known (any_missing files) refl d
      (mapped_reported kept_file is_faulty (FaultMet es options) (IsFileKept es options) (λ file _. fault_reported file.name.items (kept_lines file)) _ k)
    where
      by_verdicts : (quiet some faulty : Bool) → quiet ≡ options.quiet → Decides some (AnySelected es options (map kept_file files)) → Decides faulty (Any (FaultMet es options) (map kept_file files))
          → StatusOf es options (map kept_file files) (if quiet && some then selected else status_by some faulty)
      by_verdicts true true faulty q s f = StatusOf-quiet es options (map kept_file files) (sym q) (s.0 refl)
      by_verdicts true false true q s f = StatusOf-error es options (map kept_file files) (λ _ any. false≢true (s.1 any)) (f.0 refl)
      by_verdicts true false false q s f = StatusOf-none es options (map kept_file files) (λ h. false≢true (f.1 h)) (λ h. false≢true (s.1 h))
      by_verdicts false some true q s f = StatusOf-error es options (map kept_file files) (λ quiet _. false≢true (q ∙ quiet)) (f.0 refl)
      by_verdicts false true false q s f = StatusOf-selected es options (map kept_file files) (λ h. false≢true (f.1 h)) (s.0 refl)
      by_verdicts false false false q s f = StatusOf-none es options (map kept_file files) (λ h. false≢true (f.1 h)) (λ h. false≢true (s.1 h))

  -- the status is that of the files
  pub kept_status : (files : List KeptFile) → All (IsFileKept es options) files → StatusOf es options (map kept_file files) (status_by_files options files)
  kept_status files k =
      given_status _ k _ (mapped_reported kept_file (has_selected options) (HasSelected es options) (IsFileKept es options) (λ file. has_reported file.name.items (kept_lines file)) _ k)
