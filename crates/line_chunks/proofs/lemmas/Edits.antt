-- Entries that are changed, removed or put in the place of others.
use Rattle.line_chunks.proofs.{Prelude.{◌≡◌, ℕ, suc, ◌+◌, ◌-◌, ◌^◌, ◌<◌, ◌≤◌, List, [], ◌∷◌, ◌++◌, length, take, drop, set, get_or, ap, sym, ◌∙◌, arith, length-append, add-one, inl, inr, take_all, length-take, length-drop, map-append, set-get_or, length-set, take-append-le, take-take, take-append-drop, take-set-le, take_at, drop_at, drop_more, drop-set-lt, drop-append-add, All-append, All-cons, All-drop, All-nil, All-take, drop-map, drop_all, cases_lt, IfOk, OnErr, remove_range, Result, Ok, Err, Text, KeptLine, AreFilled, all_of, new_line, matched_count, IsPlace, chunks_of, AreSummed, IsSummedTo, Entry}, lemmas.{Joins.{joined_more, size_suc, all_taken, put_in}, Sums.{chunks_of-set, chunks_of-take, length-chunks_of, chunk_at, summed_all, summed_set, summed_take, end_suc, hits_suc, matched-append, summed_push}}}

-- ---- what an entry says of the lines up to its chunk

pub entry_end : (es : List Entry) (k : ℕ) {e : Entry} → k < length es → AreSummed 0 0 es → e ≡ get_or es k e → e.end ≡ length (all_of (take k (chunks_of es))) + length e.chunk
entry_end es k {e} h s read =
    let is = end_suc 0 0 k es e h (summed_take 0 0 (suc k) es s) in
    let here = ap (λ (one : Entry). one.end) read in
    let lines = ap (λ (one : Entry). length one.chunk) read in
    let chunk = ap length (chunk_at es k e h) in
    let size = size_suc (chunks_of es) k in
    omega arith

pub entry_hits : (es : List Entry) (k : ℕ) {e : Entry} → k < length es → AreSummed 0 0 es → e ≡ get_or es k e → e.hits ≡ matched_count (all_of (take k (chunks_of es))) + matched_count e.chunk
entry_hits es k {e} h s read =
    let is = hits_suc 0 0 k es e h (summed_take 0 0 (suc k) es s) in
    let here = ap (λ (one : Entry). one.hits) read in
    let lines = ap (λ (one : Entry). matched_count one.chunk) read in
    let chunk = ap matched_count (chunk_at es k e h) in
    let inside : k < length (chunks_of es) = omega (arith, length-chunks_of es) in
    let more = ap matched_count (joined_more (chunks_of es) k inside) in
    let sum = matched-append (all_of (take k (chunks_of es))) (get_or (chunks_of es) k []) in
    let one = ap (λ n. matched_count (all_of (take n (chunks_of es)))) (add-one k) in
    omega arith

pub last_end : (es : List Entry) (k : ℕ) (e : Entry) → k + 1 ≡ length es → AreSummed 0 0 es → e ≡ get_or es k e → e.end ≡ length (all_of (chunks_of es))
last_end es k e h s read =
    let is = end_suc 0 0 k es e (omega arith) (summed_take 0 0 (suc k) es s) in
    let here = ap (λ (one : Entry). one.end) read in
    let all = all_taken (chunks_of es) (suc k) (omega (arith, length-chunks_of es)) in
    omega arith

-- ---- a line is added to the last chunk

module _ (es : List Entry) (k : ℕ) (old new : Entry) (text : Text) (h : k + 1 ≡ length es)
    (s : AreSummed 0 0 es) (read : old ≡ get_or es k old) where
  one_more : new ≡ record { chunk = old.chunk ++ new_line text ∷ []; end = old.end + 1; hits = old.hits } → AreSummed 0 0 (set es k new)
  one_more is =
      let inside : k < length es = omega arith in
      let longer = length-append old.chunk (new_line text ∷ []) in
      let none = matched-append old.chunk (new_line text ∷ []) in
      let before = entry_end es k inside s read in
      let before_hits = entry_hits es k inside s read in
      rw is (summed_all _ _ (omega (arith, length-set {A = Entry})) (summed_set es k (record { chunk = old.chunk ++ new_line text ∷ []; end = old.end + 1; hits = old.hits }) inside (summed_take 0 0 k es s) (omega arith) (omega arith)))

  same_again : new ≡ old → set es k new ≡ es
  same_again is = cc (set-get_or es k old)

  pub add_summed : {T E : Type 0} (result : Result T E) → IfOk result (λ _. new ≡ record { chunk = old.chunk ++ new_line text ∷ []; end = old.end + 1; hits = old.hits }) → OnErr result (new ≡ old) → AreSummed 0 0 (set es k new)
  add_summed (Ok a) is same = one_more is
  add_summed (Err a) is same = rw (same_again same) s

  pub add_ok : {T E : Type 0} (result : Result T E) → IfOk result (λ _. new ≡ record { chunk = old.chunk ++ new_line text ∷ []; end = old.end + 1; hits = old.hits }) → IfOk result (λ _. chunks_of (set es k new) ≡ set (chunks_of es) k (get_or (chunks_of es) k [] ++ new_line text ∷ []))
  add_ok (Ok a) is = cc (chunks_of-set es k new, chunk_at es k old (omega arith))
  add_ok (Err a) is = tt

-- ---- entries are removed

pub chunks_of-without : {new : List Entry} (es : List Entry) (from to : ℕ) → new ≡ remove_range es from to → chunks_of new ≡ remove_range (chunks_of es) from to
chunks_of-without es from to is = cc (map-append (λ (e : Entry). e.chunk) (take from es) (drop to es), chunks_of-take from es, drop-map (λ (e : Entry). e.chunk) to es)

-- an entry has fewer lines
pub chunks_of-set_at : (es : List Entry) (k from to : ℕ) (old new : Entry) → k < length es → old ≡ get_or es k old → new.chunk ≡ remove_range old.chunk from to → chunks_of (set es k new) ≡ set (chunks_of es) k (remove_range (get_or (chunks_of es) k []) from to)
chunks_of-set_at es k from to old new h read is = cc (chunks_of-set es k new, chunk_at es k old h)

-- ---- chunks without lines

-- lines were removed from one chunk
pub filled_beside : {new : List (List KeptLine)} (cs : List (List KeptLine)) (k : ℕ) (lines : List KeptLine) → new ≡ set cs k lines → AreFilled cs → AreFilled (take k new) × AreFilled (drop (k + 2) new)
filled_beside cs k lines is filled = (rw (is, take-set-le k cs k lines (omega arith)) (All-take (λ xs. 1 ≤ length xs) k cs filled), rw (is, drop-set-lt (k + 2) cs k lines (omega arith)) (All-drop (λ xs. 1 ≤ length xs) (k + 2) cs filled))

-- lines were removed from two chunks, and those between
pub filled_around : {new : List (List KeptLine)} (cs : List (List KeptLine)) (k last : ℕ) (xs ys : List KeptLine) → k < length cs → new ≡ take k cs ++ (xs ∷ ys ∷ drop (last + 1) cs) → AreFilled cs → AreFilled (take k new) × AreFilled (drop (k + 2) new)
filled_around cs k last xs ys inside is filled =
    let many : length (take k cs) ≡ k = omega (arith, length-take k cs) in
    let rest = xs ∷ ys ∷ drop (last + 1) cs in (rw (is, take_at (take k cs) rest k many) (All-take (λ zs. 1 ≤ length zs) k cs filled), rw (ap (drop (k + 2)) is ∙ ap (λ n. drop (n + 2) (take k cs ++ rest)) (sym many) ∙ drop-append-add (take k cs) rest 2) (All-drop (λ zs. 1 ≤ length zs) (last + 1) cs filled))

-- all before a chunk and from it on are filled
pub filled_both : (cs : List (List KeptLine)) (k : ℕ) → AreFilled (take k cs) → AreFilled (drop k cs) → AreFilled cs
filled_both cs k before after = rw (take-append-drop k cs) at (All-append (λ xs. 1 ≤ length xs) (take k cs) (drop k cs) before after)

-- chunk `k`, if it has no line, is the only one left
module _ (cs : List (List KeptLine)) (k n : ℕ) (order : n ≤ k) (before : AreFilled (take n cs))
    (after : AreFilled (drop (k + 1) cs)) where
  pub none_at : length cs ≤ k → AreFilled (take n cs) × AreFilled (drop k cs)
  none_at past = (before, rw (drop_all k cs past) (All-nil (λ xs. 1 ≤ length xs)))

  pub some_at : k < length cs → 1 ≤ length (get_or cs k []) → AreFilled (take n cs) × AreFilled (drop k cs)
  some_at inside some = (before, rw (drop_more cs k [] inside) (All-cons (λ xs. 1 ≤ length xs) (get_or cs k []) (drop (k + 1) cs) some after))

  pub dropped_at : k < length cs → {new : List (List KeptLine)} → new ≡ remove_range cs k (k + 1) → AreFilled (take n new) × AreFilled (drop k new)
  dropped_at inside is =
      let many : length (take k cs) ≡ k = omega (arith, length-take k cs) in (rw (is, take-append-le n (take k cs) (drop (k + 1) cs) (omega arith), take-take n k cs order) before, rw (is, drop_at (take k cs) (drop (k + 1) cs) k many) after)

-- ---- other chunks are put in

pub seam_end : (es : List Entry) {count : ℕ} (first last end : ℕ) → count ≡ length es → first ≤ last → first ≤ length (chunks_of es) → (last < count → end ≡ last + 1) → (count ≤ last → end ≡ count) → first ≤ end
seam_end es first last end many order within next past = grind (arith, many, order, within, next, past, length-chunks_of es)

pub chunks_put : {new : List Entry} (es fresh : List Entry) (first end : ℕ) → new ≡ take first es ++ (fresh ++ drop end es) → chunks_of new ≡ take first (chunks_of es) ++ (chunks_of fresh ++ drop end (chunks_of es))
chunks_put es fresh first end is = cc (map-append (λ (e : Entry). e.chunk) (take first es) (fresh ++ drop end es), chunks_of-take first es, map-append (λ (e : Entry). e.chunk) fresh (drop end es), drop-map (λ (e : Entry). e.chunk) end es)

module _ (es new fresh : List Entry) (lines : List KeptLine) (start count first before last after end n : ℕ)
    (p : IsPlace (chunks_of es) start first before) (q : IsPlace (chunks_of es) (start + count) last after) (many : n ≡ length es) (next : last < n → end ≡ last + 1) (past : n ≤ last → end ≡ n) (is : new ≡ take first es ++ (fresh ++ drop end es)) (made : all_of (chunks_of fresh) ≡ take before (get_or (chunks_of es) first []) ++ (lines ++ drop after (get_or (chunks_of es) last []))) where
  -- where the chunks after the last one touched begin
  rest : drop end (chunks_of es) ≡ drop (last + 1) (chunks_of es)
  rest = elim (cases_lt last n) [
    | inl h ↦ rw (next h)
    | inr h ↦ cc (drop_all end (chunks_of es) (omega (arith, length-chunks_of es, past h)), drop_all (last + 1) (chunks_of es) (omega (arith, length-chunks_of es)))
  ]

  pub lines_put : all_of (chunks_of new) ≡
      take start (all_of (chunks_of es)) ++ (lines ++ drop (start + count) (all_of (chunks_of es)))
  lines_put = put_in _ _ count _ _ _ _ p q (chunks_of fresh) _ lines rest (chunks_put es fresh first end is) made

  pub put_summed : AreSummed 0 0 es → IsSummedTo new first
  put_summed s =
      let inside : first ≤ length es = omega (arith, length-chunks_of es) in
      let many = length-take first es in
      let size = ap length is in
      let more = length-append (take first es) (fresh ++ drop end es) in
      let enough : first ≤ length (take first es) = omega arith in
      let same : take first new ≡ take first es = cc (take-append-le first (take first es) (fresh ++ drop end es) enough, take-take first first es (omega arith)) in
      record {
        within = omega arith;
        summed = rw same (summed_take 0 0 first es s);
      }

  pub put_few : start + count ≤ length (all_of (chunks_of es)) → length (all_of (chunks_of es)) - count + length lines < 2 ^ 64 → length (all_of (chunks_of new)) < 2 ^ 64
  put_few within few =
      let all = all_of (chunks_of es) in
      let size = ap length lines_put in
      omega (arith, length-append (take start all) (lines ++ drop (start + count) all), length-append lines (drop (start + count) all), length-take start all, length-drop (start + count) all)

  pub put_filled : AreFilled (chunks_of fresh) → AreFilled (chunks_of es) → AreFilled (chunks_of new)
  put_filled own filled = rw (chunks_put es fresh first end is) (All-append (λ xs. 1 ≤ length xs) (take first (chunks_of es)) (chunks_of fresh ++ drop end (chunks_of es)) (All-take (λ xs. 1 ≤ length xs) first (chunks_of es) filled) (All-append (λ xs. 1 ≤ length xs) (chunks_of fresh) (drop end (chunks_of es)) own (All-drop (λ xs. 1 ≤ length xs) end (chunks_of es) filled)))

-- ---- a chunk of one line is added

module _ (es new : List Entry) (lines hits : ℕ) (empty chunk : List KeptLine) (text : Text) (none : empty ≡ [])
    (chunk_is : chunk ≡ empty ++ new_line text ∷ []) (is : new ≡ es ++ record { chunk = chunk; end = lines + 1; hits = hits } ∷ []) where
  one_line : chunk ≡ new_line text ∷ []
  one_line = cc

  pub new_chunk_put : chunks_of new ≡ chunks_of es ++ (new_line text ∷ []) ∷ []
  new_chunk_put = cc (map-append (λ (e : Entry). e.chunk) es (record { chunk = chunk; end = lines + 1; hits = hits } ∷ []), one_line)

  pub new_chunk_summed : {ds fs : List Entry} {count : ℕ} → AreSummed 0 0 es → ds ≡ es → fs ≡ es → count ≡ length es → lines ≡ length (all_of (take count (chunks_of ds))) → hits ≡ matched_count (all_of (take count (chunks_of fs))) → AreSummed 0 0 new
  new_chunk_summed {count = count} s same same_too many lines_are hits_are =
      let end = ap (λ xs. length (all_of (take count (chunks_of xs)))) same in
      let matched = ap (λ xs. matched_count (all_of (take count (chunks_of xs)))) same_too in
      let enough : length (chunks_of es) ≤ count = omega (arith, length-chunks_of es) in
      let whole = take_all count (chunks_of es) enough in
      let all = ap (λ cs. length (all_of cs)) whole in
      let all_hits = ap (λ cs. matched_count (all_of cs)) whole in
      let size = ap length one_line in
      let ones = ap matched_count one_line in
      rw is (summed_push 0 0 es (record { chunk = chunk; end = lines + 1; hits = hits }) s (omega arith) (omega arith))
