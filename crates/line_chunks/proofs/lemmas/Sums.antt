-- The sums of entries: what each says, and where they stay right.
use Rattle.line_chunks.proofs.{Prelude.{◌≡◌, ◌≢◌, ℕ, suc, zero, ◌+◌, ◌-◌, ◌^◌, ◌<◌, ◌≤◌, List, [], ◌∷◌, ◌++◌, length, take, set, get_or, ap, sym, ◌∙◌, arith, length-append, length-set, take_more_set, take_more, take_all, length-map, map-set, take-map, get_or-map, length-take, map-set_same, KeptLine, no_line, all_of, matched_count, is_matched, IsPlace, Bool, if◌then◌else◌, chunks_of, AreSummed, IsSummedTo, Entry}, lemmas.Joins.{begins_within, begins_in_order, line_of, size_at, take_seam}}

-- ---- matched lines

pub matched-append : (xs ys : List KeptLine) → matched_count (xs ++ ys) ≡ matched_count xs + matched_count ys
matched-append [] ys = omega arith
matched-append (x ∷ xs) ys = omega (arith, matched-append xs ys)

pub matched_few : (xs : List KeptLine) → matched_count xs ≤ length xs
matched_few [] = omega arith
matched_few (x ∷ xs) = grind (arith, matched_few xs)

-- ---- entries as chunks

pub chunks_of-take : (k : ℕ) (es : List Entry) → chunks_of (take k es) ≡ take k (chunks_of es)
chunks_of-take k es = sym (take-map (λ (e : Entry). e.chunk) k es)

pub chunks_of-set : (es : List Entry) (k : ℕ) (e : Entry) → chunks_of (set es k e) ≡ set (chunks_of es) k e.chunk
chunks_of-set es k e = map-set (λ (one : Entry). one.chunk) es k e

pub length-chunks_of : (es : List Entry) → length (chunks_of es) ≡ length es
length-chunks_of es = length-map es (λ (e : Entry). e.chunk)

pub chunk_at : (es : List Entry) (k : ℕ) (d : Entry) → k < length es → get_or (chunks_of es) k [] ≡ (get_or es k d).chunk
chunk_at es k d h = get_or-map (λ (e : Entry). e.chunk) es k d [] h

-- ---- what the sums say

pub summed_take : (lines hits k : ℕ) (es : List Entry) → AreSummed lines hits es → AreSummed lines hits (take k es)
summed_take lines hits zero [] s = s
summed_take lines hits zero (e ∷ es) s = tt
summed_take lines hits (suc k) [] s = s
summed_take lines hits (suc k) (e ∷ es) s = (s.0, (s.1.0, summed_take e.end e.hits k es s.1.1))

pub summed_to : (k : ℕ) (es : List Entry) → k ≤ length es → AreSummed 0 0 es → IsSummedTo es k
summed_to k es h s = record { within = h; summed = summed_take 0 0 k es s }

pub summed_all : (k : ℕ) (es : List Entry) → length es ≤ k → IsSummedTo es k → AreSummed 0 0 es
summed_all k es h s = rw (take_all k es h) at s.summed

pub end_suc : (lines hits k : ℕ) (es : List Entry) (d : Entry) → k < length es → AreSummed lines hits (take (suc k) es) → (get_or es k d).end ≡ lines + length (all_of (take (suc k) (chunks_of es)))
end_suc lines hits k [] d h s = absurd (omega arith)
end_suc lines hits zero (e ∷ es) d h s = omega (arith, length-append e.chunk [])
end_suc lines hits (suc k) (e ∷ es) d h s = omega (arith, end_suc e.end e.hits k es d (omega arith) s.1.1, length-append {A = KeptLine})

pub hits_suc : (lines hits k : ℕ) (es : List Entry) (d : Entry) → k < length es → AreSummed lines hits (take (suc k) es) → (get_or es k d).hits ≡ hits + matched_count (all_of (take (suc k) (chunks_of es)))
hits_suc lines hits k [] d h s = absurd (omega arith)
hits_suc lines hits zero (e ∷ es) d h s = omega (arith, matched-append e.chunk [])
hits_suc lines hits (suc k) (e ∷ es) d h s = omega (arith, hits_suc e.end e.hits k es d (omega arith) s.1.1, matched-append)

pub summed_push : (lines hits : ℕ) (es : List Entry) (e : Entry) → AreSummed lines hits es → e.end ≡ lines + length (all_of (chunks_of es)) + length e.chunk → e.hits ≡ hits + matched_count (all_of (chunks_of es)) + matched_count e.chunk → AreSummed lines hits (es ++ e ∷ [])
summed_push lines hits [] e s end_is hits_is = (omega arith, (omega arith, tt))
summed_push lines hits (x ∷ es) e s end_is hits_is = (s.0, (s.1.0, summed_push x.end x.hits es e s.1.1 (omega (arith, length-append x.chunk (all_of (chunks_of es)))) (omega (arith, matched-append x.chunk (all_of (chunks_of es))))))

-- an entry is replaced after those whose sums are right
pub summed_set : (es : List Entry) (k : ℕ) (e : Entry) → k < length es → AreSummed 0 0 (take k es) → e.end ≡ length (all_of (take k (chunks_of es))) + length e.chunk → e.hits ≡ matched_count (all_of (take k (chunks_of es))) + matched_count e.chunk → IsSummedTo (set es k e) (k + 1)
summed_set es k e h s end_is hits_is =
    let same = take_more_set es k e h in
    let first = chunks_of-take k es in
    let lines = ap (λ cs. length (all_of cs)) first in
    let hits = ap (λ cs. matched_count (all_of cs)) first in
    let now = summed_push 0 0 (take k es) e s (omega arith) (omega arith) in
    let many = length-set es k e in
    record {
      within = omega arith;
      summed = rw same now;
    }

-- so is one whose chunk stays
pub chunks_stay : (es : List Entry) (k : ℕ) (e d : Entry) → k < length es → e.chunk ≡ (get_or es k d).chunk → chunks_of (set es k e) ≡ chunks_of es
chunks_stay es k e d h same = map-set_same (λ (one : Entry). one.chunk) es k e d same

-- ---- what is read of an entry, of which the one before chunk `k` is read

one_less : (k : ℕ) → k ≢ 0 → suc (k - 1) ≡ k
one_less k h = omega arith

pub lines_read : (es : List Entry) (k : ℕ) (d : Entry) → k ≢ 0 → k ≤ length es → AreSummed 0 0 (take k es) → (get_or es (k - 1) d).end ≡ length (all_of (take k (chunks_of es)))
lines_read es k d h le s =
    let same = one_less k h in
    let read = end_suc 0 0 (k - 1) es d (omega arith) (rw same s) in
    let all = ap (λ n. length (all_of (take n (chunks_of es)))) same in
    omega arith

pub hits_read : (es : List Entry) (k : ℕ) (d : Entry) → k ≢ 0 → k ≤ length es → AreSummed 0 0 (take k es) → (get_or es (k - 1) d).hits ≡ matched_count (all_of (take k (chunks_of es)))
hits_read es k d h le s =
    let same = one_less k h in
    let read = hits_suc 0 0 (k - 1) es d (omega arith) (rw same s) in
    let all = ap (λ n. matched_count (all_of (take n (chunks_of es)))) same in
    omega arith

-- ---- the sums of one entry are renewed

module _ (es ds fs : List Entry) (k lines hits : ℕ) (old : Entry) (h : k < length es) (lines_same : ds ≡ es)
    (hits_same : fs ≡ es) (read : old ≡ get_or es k old) (lines_are : lines ≡ length (all_of (take k (chunks_of ds)))) (hits_are : hits ≡ matched_count (all_of (take k (chunks_of fs)))) where
  lines_here : lines ≡ length (all_of (take k (chunks_of es)))
  lines_here = cc

  hits_here : hits ≡ matched_count (all_of (take k (chunks_of es)))
  hits_here = cc

  pub hits_fewer : hits ≤ lines
  hits_fewer = omega (arith, lines_here, hits_here, matched_few (all_of (take k (chunks_of es))))

  pub lines_fit : length (all_of (chunks_of es)) < 2 ^ 64 → lines + length old.chunk < 2 ^ 64
  lines_fit few =
      let here : get_or (chunks_of es) k [] ≡ old.chunk = cc (chunk_at es k old h) in
      let size = size_at (chunks_of es) k in
      let one = ap length here in
      let within = begins_within (chunks_of es) (k + 1) in
      omega (arith, lines_here)

  pub stay_same : (new : Entry) → new ≡ record { chunk = old.chunk; end = lines + length old.chunk; hits = hits + matched_count old.chunk } → chunks_of (set es k new) ≡ chunks_of es
  stay_same new is = chunks_stay es k new old h (cc)

  pub summed_here : {new : Entry} → IsSummedTo es k → new ≡ record { chunk = old.chunk; end = lines + length old.chunk; hits = hits + matched_count old.chunk } → IsSummedTo (set es k new) (k + 1)
  summed_here s is = rw is (summed_set es k (record { chunk = old.chunk; end = lines + length old.chunk; hits = hits + matched_count old.chunk }) h s.summed (omega (arith, lines_here)) (omega (arith, hits_here)))

-- chunks between which a place is are in order
pub comes_before : (es : List Entry) (low high place : ℕ) → length (all_of (take low (chunks_of es))) ≤ place → place < length (all_of (take high (chunks_of es))) → high ≤ length es → low ≤ length es
comes_before es low high place first last inside =
    let order : high ≤ low → length (all_of (take high (chunks_of es))) ≤ length (all_of (take low (chunks_of es))) = λ h.
    begins_in_order (chunks_of es) high low h in
    grind (arith, order)

-- ---- matched lines before a line

pub matched_within : (xs : List KeptLine) (k : ℕ) → matched_count (take k xs) ≤ k
matched_within xs k = omega (arith, matched_few (take k xs), length-take k xs)

pub matched_next : (xs : List KeptLine) {count one : ℕ} (k : ℕ) {b : Bool} → k < length xs → count ≡ matched_count (take k xs) → b ≡ is_matched (get_or xs k no_line) → one ≡ (if b then 1 else 0) → count + one ≡ matched_count (take (k + 1) xs)
matched_next xs k h is read one_is =
    let x = get_or xs k no_line in
    let all = ap matched_count (take_more xs k no_line h) in
    let sum = matched-append (take k xs) (x ∷ []) in
    let last = one_is ∙ ap (λ m. if m then 1 else 0) read in
    omega arith

pub matched_to : (es : List Entry) {place k i before count : ℕ} {e : Entry} → k < length es → e ≡ get_or es k e → IsPlace (chunks_of es) place k i → before ≡ matched_count (all_of (take k (chunks_of es))) → count ≡ matched_count (take i e.chunk) → before + count ≡ matched_count (take place (all_of (chunks_of es)))
matched_to es {k = k} {i = i} {e = e} h read is first here =
    let chunk : e.chunk ≡ get_or (chunks_of es) k [] = cc (chunk_at es k e h) in
    let all = ap matched_count (take_seam is) in
    let sum = matched-append (all_of (take k (chunks_of es))) (take i (get_or (chunks_of es) k [])) in
    let last = here ∙ ap (λ lines. matched_count (take i lines)) chunk in
    omega arith

-- ---- the line at a place that was found in a slice of the entries

pub line_found : {ds es : List Entry} {place k i : ℕ} {e : Entry} → ds ≡ es → k < length ds → i < length (get_or (chunks_of ds) k []) → IsPlace (chunks_of ds) place k i → e ≡ get_or es k e → get_or e.chunk i no_line ≡ get_or (all_of (chunks_of es)) place no_line
line_found {ds} {es} {place} {k} {i} {e} same h within is read = cc (chunk_at es k e (omega (arith, ap length same)), line_of _ _ k i no_line is within)
