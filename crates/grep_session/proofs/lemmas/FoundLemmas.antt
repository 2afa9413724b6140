-- What was found replaces what is kept, one chunk and one file at a time.
use Rattle.{grep_session.proofs.Prelude.{◌≡◌, ℕ, zero, suc, ◌<◌, List, [], ◌∷◌, ◌++◌, length, map, take, drop, get_or, ◌+◌, add-one, Option, None, Some, IfSome, All, drop-cons, refl, sym, ap, ◌∙◌, arith, append_assoc, AllZip, option_map, unwrap_or, Text, Expression, Options, KeptLine, all_of, line_text, FitColumns, FitsColumn, with_column, with_columns, FoundIn, Change, KeptFile, HasChanged, AddsColumns, IsColumn, chunks_of, chunks_of_files, IsKept, IsFileKept, kept_file, file_with, set, take-append_seam, drop-append_seam, take-suc, map-append, append-nil, get_or-drop, drop-set-lt, flat_map-append, All-nil, All-cons, All-append, All-take, All-drop, All-tail}, grep_core.proofs.lemmas.MatcherLemmas.AllZip-append, line_chunks.proofs.lemmas.{Joins.{joined_parts, joined_push}, SeenLaws.texts-seen}}

-- ---- what holds of all elements

pub all_first : {X : Type 0} (P : X → Type 0) (xs ys : List X) → All P (xs ++ ys) → All P xs
all_first P xs ys all = rw (take-append_seam xs ys) at (All-take P (length xs) (xs ++ ys) all)

pub all_rest : {X : Type 0} (P : X → Type 0) (xs ys : List X) → All P (xs ++ ys) → All P ys
all_rest P xs ys all = rw (drop-append_seam xs ys) at (All-drop P (length xs) (xs ++ ys) all)

-- what holds of all lines holds of those of each chunk
pub all_by_chunk : (P : KeptLine → Type 0) (chunks : List (List KeptLine)) → All P (all_of chunks) → All (All P) chunks
all_by_chunk P [] all = All-nil (All P)
all_by_chunk P (chunk ∷ chunks) all = All-cons (All P) chunk chunks (all_first P chunk (all_of chunks) all) (all_by_chunk P chunks (all_rest P chunk (all_of chunks) all))

-- ---- chunks by the first ones, the next, and the rest

module _ (chunks : List (List KeptLine)) (i : ℕ) (h : i < length chunks) where
  pub chunks_next : take (i + 1) chunks ≡ take i chunks ++ get_or chunks i [] ∷ []
  chunks_next = cc (add-one i, take-suc chunks i [] h)

  pub texts_next : map line_text (all_of (take (i + 1) chunks)) ≡ map line_text (all_of (take i chunks)) ++ map line_text (get_or chunks i [])
  texts_next = ap (λ cs. map line_text (all_of cs)) chunks_next ∙ ap (map line_text) (joined_push (take i chunks) (get_or chunks i [])) ∙ map-append line_text (all_of (take i chunks)) (get_or chunks i [])

  pub texts_rest : map line_text (all_of (take (i + 1) chunks)) ++ map line_text (all_of (drop (i + 1) chunks)) ≡ map line_text (all_of chunks)
  texts_rest = cc (map-append line_text (all_of (take (i + 1) chunks)) (all_of (drop (i + 1) chunks)), joined_parts chunks (i + 1))

-- ---- columns that are added

module _ (change : Change) (es : List Expression) (options : Options) where
  -- nothing was found in no chunk
  pub adds_no_column : (old : List (Option FoundIn)) → AddsColumns change es options [] old old
  adds_no_column old = record { found = []; added = sym (append-nil old); fit = tt; are_right = λ h k. tt }

  -- what was found in more chunks
  pub adds_columns : (chunks more all : List (List KeptLine)) (old mid new : List (Option FoundIn)) → all ≡ chunks ++ more → AddsColumns change es options chunks old mid → AddsColumns change es options more mid new → AddsColumns change es options all old new
  adds_columns chunks more all old mid new both a b = record {
    found = a.found ++ b.found;
    added = cc (b.added, a.added, append_assoc old a.found b.found);
    fit = rw both (AllZip-append FitsColumn chunks more a.found b.found a.fit b.fit);
    are_right = λ h k.
        let Kept = All (IsKept h.before h.was) in
        let kept = rw both at k in
        rw both
        (AllZip-append (IsColumn es options) chunks more a.found b.found (a.are_right h (all_first Kept _ _ kept)) (b.are_right h (all_rest Kept _ _ kept)));
  }

  -- what was found in one chunk
  pub adds_column : (chunk : List KeptLine) (one : Option FoundIn) (old new : List (Option FoundIn)) → new ≡ old ++ one ∷ [] → FitsColumn chunk one
      → ((h : HasChanged change es options) → All (IsKept h.before h.was) chunk → IsColumn es options chunk one) → AddsColumns change es options (chunk ∷ []) old new
  adds_column chunk one old new pushed fits right = record { found = one ∷ []; added = pushed; fit = (fits, tt); are_right = λ h k. (right h (k 0 chunk (omega arith)), tt) }

-- ---- columns that are put

-- the first of what was found fits the first chunks
pub fit_first : (chunks more : List (List KeptLine)) (found : List (Option FoundIn)) → AllZip FitsColumn (chunks ++ more) found → FitColumns chunks found
fit_first [] more found h = tt
fit_first (chunk ∷ chunks) more [] h = h
fit_first (chunk ∷ chunks) more (one ∷ found) h = (h.0, fit_first chunks more found h.1)

-- the rest is that of the other chunks
pub rest_of : (P : List KeptLine → Option FoundIn → Type 0) (chunks more : List (List KeptLine)) (found : List (Option FoundIn)) → AllZip P (chunks ++ more) found → AllZip P more (drop (length chunks) found)
rest_of P [] more found h = h
rest_of P (chunk ∷ chunks) more [] h = absurd h
rest_of P (chunk ∷ chunks) more (one ∷ found) h = rest_of P chunks more found h.1

module _ (es : List Expression) (options : Options) where
  -- the lines of chunks have what was found in them
  right_chunks : (chunks more : List (List KeptLine)) (found : List (Option FoundIn)) → AllZip (IsColumn es options) (chunks ++ more) found → All (IsKept es options) (all_of (with_columns chunks found))
  right_chunks [] more found h = All-nil (IsKept es options)
  right_chunks (chunk ∷ chunks) more [] h = absurd h
  right_chunks (chunk ∷ chunks) more (one ∷ found) h = All-append (IsKept es options) (with_column chunk one) (all_of (with_columns chunks found)) h.0.1 (right_chunks chunks more found h.1)

  -- so have those of a file
  pub right_file : (old new : KeptFile) (more : List (List KeptLine)) (found : List (Option FoundIn)) → new.lines ≡ option_map (λ cs. with_columns cs found) old.lines → AllZip (IsColumn es options) (chunks_of old ++ more) found → IsFileKept es options new
  right_file old new more found put h = rw put (by_lines old.lines h)
    where
      by_lines : (ls : Option (List (List KeptLine))) → AllZip (IsColumn es options) (unwrap_or ls [] ++ more) found → IfSome (option_map all_of (option_map (λ cs. with_columns cs found) ls)) (All (IsKept es options))
      by_lines None h = tt
      by_lines (Some chunks) h = right_chunks chunks more found h

-- ---- what does not change

texts_with_column : (chunk : List KeptLine) (one : Option FoundIn) → map line_text (with_column chunk one) ≡ map line_text chunk
texts_with_column chunk None = refl
texts_with_column chunk (Some found) = texts-seen 0 (map line_text chunk) found

pub texts_with_columns : (chunks : List (List KeptLine)) (found : List (Option FoundIn)) → map line_text (all_of (with_columns chunks found)) ≡ map line_text (all_of chunks)
texts_with_columns [] found = refl
texts_with_columns (chunk ∷ chunks) [] = refl
texts_with_columns (chunk ∷ chunks) (one ∷ found) =
    let first = texts_with_column chunk one in
    let rest = texts_with_columns chunks found in
    map-append line_text (with_column chunk one) (all_of (with_columns chunks found)) ∙ (λ i. first i ++ rest i) ∙ sym (map-append line_text chunk (all_of chunks))

file_with_columns : (name : Text) (ls : Option (List (List KeptLine))) (found : List (Option FoundIn)) → file_with name (option_map all_of (option_map (λ cs. with_columns cs found) ls)) ≡ file_with name (option_map all_of ls)
file_with_columns name None found = refl
file_with_columns name (Some chunks) found = rw (texts_with_columns _ _)

-- the file that contracts see is as it was
pub same_file : (old new : KeptFile) (found : List (Option FoundIn)) → new.name ≡ old.name → new.lines ≡ option_map (λ cs. with_columns cs found) old.lines → kept_file new ≡ kept_file old
same_file old new found name put = (λ i. file_with (name i).items (option_map all_of (put i))) ∙ file_with_columns old.name.items old.lines found

-- the chunks of the file at a place, and of those after it
pub chunks_from : (files : List KeptFile) (i : ℕ) (d : KeptFile) → i < length files → chunks_of_files (drop i files) ≡ chunks_of (get_or files i d) ++ chunks_of_files (drop (suc i) files)
chunks_from files i d h = rw (drop-cons files i d h)

-- the chunks of the first files and of one more
pub chunks_on : (files : List KeptFile) (i : ℕ) (file : KeptFile) → i < length files → file ≡ get_or files i file → chunks_of_files (take (i + 1) files) ≡ chunks_of_files (take i files) ++ chunks_of file
chunks_on files i file h is =
    ap (λ n. chunks_of_files (take n files)) (add-one i) ∙ ap chunks_of_files (take-suc files i file h ∙ ap (λ f. take i files ++ f ∷ []) (sym is))
    ∙ flat_map-append chunks_of (take i files) (file ∷ []) ∙ ap (λ cs. chunks_of_files (take i files) ++ cs) (append-nil (chunks_of file))

-- what is known of the lines of all files is known of those of each chunk
pub files_by_chunk : (es : List Expression) (options : Options) (files : List KeptFile) → All (IsFileKept es options) files → All (All (IsKept es options)) (chunks_of_files files)
files_by_chunk es options [] all = All-nil (All (IsKept es options))
files_by_chunk es options (file ∷ files) all =
    All-append (All (IsKept es options)) (chunks_of file) (chunks_of_files files) (by_lines file.lines (all 0 file (omega arith))) (files_by_chunk es options files (All-tail (IsFileKept es options) file files all))
  where
    by_lines : (ls : Option (List (List KeptLine))) → IfSome (option_map all_of ls) (All (IsKept es options)) → All (All (IsKept es options)) (unwrap_or ls [])
    by_lines None h = All-nil (All (IsKept es options))
    by_lines (Some chunks) h = all_by_chunk (IsKept es options) chunks h

-- a file that cannot be opened has no chunk
pub no_chunks : (file : KeptFile) → file.lines ≡ None → chunks_of file ≡ []
no_chunks file is = rw is

-- another has those that are kept of it
module _ (file : KeptFile) (chunks : List (List KeptLine)) (is : file.lines ≡ Some chunks) where
  pub its_chunks : chunks_of file ≡ chunks
  its_chunks = rw is

  pub its_lines : (kept_file file).lines ≡ map line_text (all_of chunks)
  its_lines = rw is

  pub was_kept : {es : List Expression} {options : Options} → IsFileKept es options file → All (IsKept es options) (all_of chunks)
  was_kept kept = rw is at kept

-- ---- files whose lines are put one after the other

-- one more element is left out
left_out : {X : Type 0} (i : ℕ) (xs : List X) → drop 1 (drop i xs) ≡ drop (suc i) xs
left_out zero [] = refl
left_out (suc i) [] = refl
left_out zero (x ∷ xs) = refl
left_out (suc i) (x ∷ xs) = left_out i xs

-- the files after a place, after the one there was replaced
pub later_on : (files now : List KeptFile) (i : ℕ) (new : KeptFile) → drop i now ≡ drop i files → drop (i + 1) (set now i new) ≡ drop (i + 1) files
later_on files now i new same =
    ap (λ n. drop n (set now i new)) (add-one i) ∙ drop-set-lt (suc i) now i new (omega arith) ∙ sym (left_out i now) ∙ ap (drop 1) same ∙ left_out i files ∙ ap (λ n. drop n files) (sym (add-one i))

-- the file at a place is the one that was there, if those from there on are
pub there_still : (files now : List KeptFile) (i : ℕ) (d : KeptFile) → drop i now ≡ drop i files → get_or now i d ≡ get_or files i d
there_still files now i d same =
    let place : i ≡ i + 0 = omega arith in
    ap (λ n. get_or now n d) place ∙ sym (get_or-drop i now 0 d) ∙ ap (λ fs. get_or fs 0 d) same ∙ get_or-drop i files 0 d ∙ ap (λ n. get_or files n d) (sym place)

-- ---- all chunks of one list of lines

-- what was found fits them
pub fit_all : (chunks : List (List KeptLine)) (found : List (Option FoundIn)) → AllZip FitsColumn chunks found → FitColumns chunks found
fit_all chunks found fit = fit_first _ [] _ (rw (append-nil chunks) fit)

-- and is right for their lines
pub right_all : (es : List Expression) (options : Options) (chunks : List (List KeptLine)) (found : List (Option FoundIn)) → AllZip (IsColumn es options) chunks found → All (IsKept es options) (all_of (with_columns chunks found))
right_all es options chunks found right = right_chunks es options chunks [] found (rw (append-nil chunks) right)
