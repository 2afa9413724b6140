-- One command from its words to its bytes, worked by hand.
use Rattle.{grep_utility.proofs.{Prelude.{◌≡◌, ℕ, zero, suc, ◌≤◌, nat_eq, true, false, List, [], ◌∷◌, Option, Some, Ok, All, refl, sym, ap, subst, arith, inl, inr, codes, ⊎_elim, ◌⊎◌, ⊤, false≢true, All-nil, All-cons, Basic, Text, Expression, byte, Matches, list_of, IsMeant, IsReadable, Options, no_options, Error, IsShown, Groups, File, whole, missing, Selected, HasSelected, FaultMet, Messages, StatusOf, Out, Source, Writer, devices, Steps, CommandGives, Folder, sources_named, IsKnown, full_files, unopened, Predicts, FailuresAre, Wrote, ReportsMemory, Asked, list, read, word_of, meaning_of, row_words, row_text, row_output, row_messages, RowFollows}, lemmas.FullLemmas.predicted}, std.specs.{Str.chars, Fmt.digits}, re_syntax.{specs.{Lines.lines_of, BasicTokens.ordinary}, proofs.lemmas.{Decisions.{Any-first, Any-later, Any-cases, Any-none}, SpelledParts.{single, none, item, last, spells}}}}

-- ---- what the words ask for

abbrev pub row_options : Options
row_options = record no_options { line_number = true; context = Some (record { before = 2; after = 0 }) }

abbrev row_asked : Asked
row_asked = record { syntax = Basic; options = row_options; sources = list (codes "a") ∷ []; files = codes "h" ∷ codes "missing" ∷ [] }

row_read : read row_words ≡ Ok row_asked
unfolding word_of meaning_of chars
row_read = refl

-- ---- what the pattern means

pub a_meant : IsMeant Basic false (codes "a") (byte 97)
a_meant = (byte 97, spells (last (item (single (ordinary 97 refl)) none)) (omega arith), refl)

in_itself : Matches (byte 97) (97 ∷ []) false
in_itself = (0, 1, omega arith, (97, refl, refl, refl))

not_in : (x : ℕ) → nat_eq x 97 ≡ false → Matches (byte 97) (x ∷ []) false → ⊥
not_in x other (zero, j, _, (b, at, is, _)) = let same : x ≡ b = cc at in false≢true (cc)
not_in x other (suc i, j, _, (b, at, is, _)) = let no : ⊥ = cc at in no

abbrev pub es : List Expression
es = byte 97 ∷ []

pub selected_a : Selected es row_options (codes "a")
selected_a = Any-first (λ e. Matches e (codes "a") false) (byte 97) [] in_itself

pub not_selected : (x : ℕ) → nat_eq x 97 ≡ false → Selected es row_options (x ∷ []) → ⊥
not_selected x other h = ⊎_elim (not_in x other) (Any-none (λ e. Matches e (x ∷ []) false)) (Any-cases (λ e. Matches e (x ∷ []) false) (byte 97) [] h)

-- ---- the files

abbrev row_lines : List Text
row_lines = codes "b" ∷ codes "c" ∷ codes "a" ∷ []

abbrev file_h : File
file_h = record { name = codes "h"; lines = row_lines; ending = whole }

abbrev file_missing : File
file_missing = record { name = codes "missing"; lines = []; ending = missing }

abbrev row_files : List File
row_files = file_h ∷ file_missing ∷ []

abbrev missing_source : Option Text → Source
missing_source other = record { name = codes "missing"; opens = Some false; bytes = other }

abbrev row_sources : Option Text → List Source
row_sources other = record { name = codes "h"; opens = Some true; bytes = Some row_text } ∷ missing_source other ∷ []

are_files : (other : Option Text) → full_files (row_sources other) ≡ row_files
unfolding lines_of
are_files other = refl

-- ---- what is written

shown : (k : ℕ) → k ≤ 2 → IsShown es row_options (record { before = 2; after = 0 }) row_lines k
shown k near = record { place = 2; on = omega arith; selected = selected_a; before = omega arith; after = omega arith }

groups : Groups es row_options (record { before = 2; after = 0 }) (Some (codes "h")) (λ n. Some n) row_lines (codes "--" ∷ row_output)
unfolding digits
groups = (
  codes "--" ∷ codes "h-1-b" ∷ [],
  codes "h-2-c" ∷ codes "h:3:a" ∷ [],
  inl (shown 0 (omega arith), (codes "h-1-b", inr (not_selected 98 refl, refl), inl (tt, refl))),
  (
    codes "h-2-c" ∷ [],
    codes "h:3:a" ∷ [],
    inl (shown 1 (omega arith), (codes "h-2-c", inr (not_selected 99 refl, refl), inr ((λ begins. begins (shown 0 (omega arith))), refl))),
    (
      codes "h:3:a" ∷ [],
      [],
      inl (shown 2 (omega arith), (codes "h:3:a", inl (selected_a, refl), inr ((λ begins. begins (shown 1 (omega arith))), refl))),
      refl,
      refl,
    ),
    refl,
  ),
  refl,
)

row_out : Out es row_options row_files row_output
row_out = (codes "--" ∷ row_output, (codes "--" ∷ row_output, [], groups, ([], [], refl, refl, refl), refl), refl)

pub not_quiet : (P : Type 0) → (false ≡ true) × P → ⊥
not_quiet P h = false≢true h.0

row_reported : Messages es row_options row_files row_messages
row_reported = (
  row_files,
  (file_missing ∷ [], refl, inr (not_quiet (HasSelected es row_options file_h), ([], refl, inr (not_quiet (HasSelected es row_options file_missing), refl)))),
  ([], row_messages, inr ((λ no. no), refl), (row_messages, [], inl (tt, refl), refl, refl), refl),
)

row_status : StatusOf es row_options row_files Error
row_status = inr (not_quiet _, inl (Any-later (FaultMet es row_options) file_h (file_missing ∷ []) (Any-first (FaultMet es row_options) file_missing [] tt), refl))

-- ---- the row

module _ (folder : Folder) (opens : folder.opens (codes "h") ≡ Some true) (bytes : folder.bytes (codes "h") ≡ Some row_text) (none : folder.opens (codes "missing") ≡ Some false) where
  sources_are : sources_named folder (codes "h" ∷ codes "missing" ∷ []) ≡ row_sources (folder.bytes (codes "missing"))
  sources_are = λ i. record { name = codes "h"; opens = opens i; bytes = bytes i } ∷ record { name = codes "missing"; opens = none i; bytes = folder.bytes (codes "missing") } ∷ []

  abbrev other : Option Text
  other = folder.bytes (codes "missing")

  all_known : All IsKnown (row_sources other)
  all_known =
      All-cons IsKnown (record { name = codes "h"; opens = Some true; bytes = Some row_text }) (missing_source other ∷ []) tt
      (All-cons IsKnown (missing_source other) [] tt (All-nil IsKnown))

  files_are : full_files (sources_named folder (codes "h" ∷ codes "missing" ∷ [])) ≡ row_files
  files_are = cc (are_files other)

  -- what the words foretell
  pub row_predicted : Predicts folder row_words 1 row_output row_messages Error
  unfolding list_of
  row_predicted = record {
    asked = row_asked;
    is_read = row_read;
    text = codes "a";
    one_list = refl;
    loud = refl;
    all_lines = refl;
    few_patterns = omega arith;
    readable = All-cons (IsReadable Basic false) (codes "a") [] (byte 97, a_meant, λ _. omega arith) (All-nil (IsReadable Basic false));
    es = es;
    are_meant = (a_meant, tt);
    known = subst (All IsKnown) (sym sources_are) all_known;
    are_missing = ap unopened sources_are;
    is_output = subst (λ files. Out es row_options files row_output) (sym files_are) row_out;
    are_messages = subst (λ files. Messages es row_options files row_messages) (sym files_are) row_reported;
    is_status = subst (λ files. StatusOf es row_options files Error) (sym files_are) row_status;
  }

-- the row follows
pub row_follows : RowFollows
row_follows folder opens bytes none = predicted folder row_words row_output row_messages 1 Error (row_predicted _ opens bytes none) (λ left. ⊤)

-- the same for what a call says of its devices
module _ (folder : Folder) (opens : folder.opens (codes "h") ≡ Some true) (bytes : folder.bytes (codes "h") ≡ Some row_text) (none : folder.opens (codes "missing") ≡ Some false) where
  pub row_given : (given : List (Option Text) → Type 0) (out messages new_out new_messages : Writer) (before after counted : ℕ) (steps new_steps : Steps) (status : ℕ) (words : List Text) → before ≡ 0 → counted ≡ after → words ≡ row_words
      → CommandGives folder given (devices out messages before steps) (devices new_out new_messages after new_steps) status words → FailuresAre 1 (devices out messages 0 steps) (devices new_out new_messages counted new_steps)
      → Wrote row_output row_messages Error (devices out messages 0 steps) (devices new_out new_messages counted new_steps) status ⊎ ReportsMemory messages new_messages
  row_given given out messages new_out new_messages before after counted steps new_steps status words at_first same_count same_words h counts =
      predicted _ _ _ _ 1 _ (row_predicted _ opens bytes none) given _ _ status (rw (same_words, at_first, ← same_count) at h) counts
