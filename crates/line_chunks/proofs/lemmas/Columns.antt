-- What is found in the lines of all chunks, put or changed chunk by chunk.
use Rattle.line_chunks.proofs.{Prelude.{◌≡◌, ℕ, suc, zero, ◌+◌, ◌<◌, ◌≤◌, List, [], ◌∷◌, ◌++◌, length, map, take, drop, set, get_or, refl, ap, sym, arith, add-one, length-append, length-map, All-from_get_or, All-get_or, set-get_or, Option, Some, None, FoundIn, KeptLine, AreFilled, line_text, all_of, with_column, with_columns, FitColumns, next_column, FitsNext, chunks_of, Entry}, lemmas.{SeenLaws.length-seen, Sums.{chunks_of-set, chunk_at}}}

-- nothing is put
pub columns_none : (cs : List (List KeptLine)) → with_columns cs [] ≡ cs
columns_none [] = refl
columns_none (c ∷ cs) = refl

-- one chunk more
columns_more : (cs : List (List KeptLine)) (found : List (Option FoundIn)) (k : ℕ) (d : List KeptLine) → k < length cs → set (with_columns cs (take k found)) k (next_column (get_or (with_columns cs (take k found)) k d) (drop k found))
    ≡ with_columns cs (take (suc k) found)
columns_more [] found k d h = absurd (omega arith)
columns_more (c ∷ cs) [] zero d h = refl
columns_more (c ∷ cs) [] (suc k) d h = set-get_or (c ∷ cs) (suc k) d
columns_more (c ∷ cs) (one ∷ found) zero d h = ap (λ xs. with_column c one ∷ xs) (sym (columns_none cs))
columns_more (c ∷ cs) (one ∷ found) (suc k) d h = rw (columns_more cs found k d (omega arith))

-- all chunks
pub columns_all : (cs : List (List KeptLine)) (found : List (Option FoundIn)) (n : ℕ) → length cs ≤ n → with_columns cs (take n found) ≡ with_columns cs found
columns_all [] found n h = refl
columns_all (c ∷ cs) [] zero h = refl
columns_all (c ∷ cs) [] (suc n) h = refl
columns_all (c ∷ cs) (one ∷ found) zero h = absurd (omega arith)
columns_all (c ∷ cs) (one ∷ found) (suc n) h = rw (columns_all cs found n (omega arith))

-- the next fits the next chunk, which is as it was
columns_fit : (cs : List (List KeptLine)) (found : List (Option FoundIn)) (k : ℕ) (d : List KeptLine) → k < length cs → FitColumns cs found → FitsNext (get_or (with_columns cs (take k found)) k d) (drop k found)
columns_fit [] found k d h fit = absurd (omega arith)
columns_fit (c ∷ cs) [] k d h fit = absurd fit
columns_fit (c ∷ cs) (one ∷ found) zero d h fit = fit.0
columns_fit (c ∷ cs) (one ∷ found) (suc k) d h fit = columns_fit cs found k d (omega arith) fit.1

pub drop_drop : {X : Type 0} (i : ℕ) (xs : List X) → drop 1 (drop i xs) ≡ drop (suc i) xs
drop_drop zero [] = refl
drop_drop (suc i) [] = refl
drop_drop zero (x ∷ xs) = refl
drop_drop (suc i) (x ∷ xs) = drop_drop i xs

-- ---- one turn of the loops

module _ (es : List Entry) (cs : List (List KeptLine)) (k : ℕ) (old new : Entry) (h : k < length es)
    (read : old ≡ get_or es k old) where
  here : old.chunk ≡ get_or (chunks_of es) k []
  here = cc (chunk_at es k old h)

  pub next_fits : {rest : List (Option FoundIn)} (found : List (Option FoundIn)) → chunks_of es ≡ with_columns cs (take k found) → length es ≡ length cs → rest ≡ drop k found → FitColumns cs found → FitsNext old.chunk rest
  next_fits found is many left fit =
      let now = columns_fit cs found k [] (omega arith) fit in
      let chunk : get_or (with_columns cs (take k found)) k [] ≡ old.chunk = cc here in
      rw left (rw chunk at now)

  pub next_put : {rest : List (Option FoundIn)} (found : List (Option FoundIn)) → chunks_of es ≡ with_columns cs (take k found) → length es ≡ length cs → rest ≡ drop k found → new.chunk ≡ next_column old.chunk rest → chunks_of (set es k new) ≡ with_columns cs (take (k + 1) found)
  next_put found is many left put = cc (chunks_of-set es k new, here, columns_more cs found k [] (omega arith), add-one k)

-- ---- all chunks are changed in place

map_next : (f : List KeptLine → List KeptLine) (cs : List (List KeptLine)) (k : ℕ) (d : List KeptLine) → k < length cs → set (map f (take k cs) ++ drop k cs) k (f (get_or (map f (take k cs) ++ drop k cs) k d))
    ≡ map f (take (suc k) cs) ++ drop (suc k) cs
map_next f [] k d h = absurd (omega arith)
map_next f (c ∷ cs) zero d h = refl
map_next f (c ∷ cs) (suc k) d h = rw (map_next f cs k d (omega arith))

pub chunks_mapped : (es : List Entry) (cs : List (List KeptLine)) (k : ℕ) (old new : Entry)
    (f : List KeptLine → List KeptLine) → k < length es → old ≡ get_or es k old → length es ≡ length cs → chunks_of es ≡ map f (take k cs) ++ drop k cs → new.chunk ≡ f old.chunk → chunks_of (set es k new) ≡ map f (take (k + 1) cs) ++ drop (k + 1) cs
chunks_mapped es cs k old new f h read many is put = cc (chunks_of-set es k new, here es cs k old new h read, map_next f cs k [] (omega arith), add-one k)

-- ---- all chunks have as many lines as before

length-with_column : (lines : List KeptLine) (found : Option FoundIn) → length (with_column lines found) ≡ length lines
length-with_column lines None = refl
length-with_column lines (Some found) = cc (length-seen 0 (map line_text lines) found, length-map lines line_text)

pub lines_with_columns : (cs : List (List KeptLine)) (found : List (Option FoundIn)) → length (all_of (with_columns cs found)) ≡ length (all_of cs)
lines_with_columns [] found = refl
lines_with_columns (c ∷ cs) [] = refl
lines_with_columns (c ∷ cs) (one ∷ found) = omega (arith, length-with_column c one, lines_with_columns cs found, length-append {A = KeptLine})

pub lines_mapped : (cs : List (List KeptLine)) (f : KeptLine → KeptLine) → length (all_of (map (map f) cs)) ≡ length (all_of cs)
lines_mapped [] f = refl
lines_mapped (c ∷ cs) f = omega (arith, lines_mapped cs f, length-map c f, length-append {A = KeptLine})

-- ---- each chunk has a line still

filled_as : (cs ds : List (List KeptLine)) → length ds ≡ length cs → ((k : ℕ) → length (get_or ds k []) ≡ length (get_or cs k [])) → AreFilled cs → AreFilled ds
filled_as cs ds many same filled =
    All-from_get_or (λ xs. 1 ≤ length xs) ds [] (λ k inside. (let some = All-get_or (λ xs. 1 ≤ length xs) cs k [] (omega arith) filled in
    omega (arith, same k)))

many_columns : (cs : List (List KeptLine)) (found : List (Option FoundIn)) → length (with_columns cs found) ≡ length cs
many_columns [] found = refl
many_columns (c ∷ cs) [] = refl
many_columns (c ∷ cs) (one ∷ found) = rw (many_columns cs found)

column_size : (cs : List (List KeptLine)) (found : List (Option FoundIn)) (k : ℕ) → length (get_or (with_columns cs found) k []) ≡ length (get_or cs k [])
column_size [] found k = refl
column_size (c ∷ cs) [] k = refl
column_size (c ∷ cs) (one ∷ found) zero = length-with_column c one
column_size (c ∷ cs) (one ∷ found) (suc k) = column_size cs found k

pub columns_filled : (cs : List (List KeptLine)) (found : List (Option FoundIn)) → AreFilled cs → AreFilled (with_columns cs found)
columns_filled cs found = filled_as cs (with_columns cs found) (many_columns cs found) (column_size cs found)

mapped_size : (cs : List (List KeptLine)) (f : KeptLine → KeptLine) (k : ℕ) → length (get_or (map (map f) cs) k []) ≡ length (get_or cs k [])
mapped_size [] f k = refl
mapped_size (c ∷ cs) f zero = length-map c f
mapped_size (c ∷ cs) f (suc k) = mapped_size cs f k

pub mapped_filled : (cs : List (List KeptLine)) (f : KeptLine → KeptLine) → AreFilled cs → AreFilled (map (map f) cs)
mapped_filled cs f = filled_as cs (map (map f) cs) (length-map cs (map f)) (mapped_size cs f)
