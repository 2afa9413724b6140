-- Lines of several chunks.
use Rattle.line_chunks.proofs.Prelude.{◌≡◌, ◌≢◌, ℕ, suc, zero, ◌+◌, ◌-◌, ◌<◌, ◌≤◌, List, [], ◌∷◌, ◌++◌, length, take, drop, set, get_or, refl, ap, sym, ◌∙◌, arith, length-append, append_assoc, add-one, nil_from_length, map-id, length-set, get_or-set_other, take_more_set, take-set-le, drop-set-lt, drop-set, append-nil, take-append-drop, take_more, get_or-append-add, get_or_append_left, take-append-le, drop-append-le, set_split, drop_all, take_all, drop-drop, Drains, into_iter_items, into_iter_len, into_iter_steps, IntoIter, KeptLine, all_of, IsPlace, items_from_drains, YieldsList-from_vec, take-add, take-append-add, drop-append-add}

pub joined-append : (xs ys : List (List KeptLine)) → all_of (xs ++ ys) ≡ all_of xs ++ all_of ys
joined-append [] ys = refl
joined-append (x ∷ xs) ys = cc (joined-append xs ys, append_assoc x (all_of xs) (all_of ys))

pub joined_one : (xs : List KeptLine) → all_of (xs ∷ []) ≡ xs
joined_one xs = append-nil xs

pub joined_push : (cs : List (List KeptLine)) (xs : List KeptLine) → all_of (cs ++ xs ∷ []) ≡ all_of cs ++ xs
joined_push cs xs = cc (joined-append cs (xs ∷ []), joined_one xs)

pub joined_parts : (cs : List (List KeptLine)) (k : ℕ) → all_of cs ≡ all_of (take k cs) ++ all_of (drop k cs)
joined_parts cs k = cc (take-append-drop k cs, joined-append (take k cs) (drop k cs))

pub joined_more : (cs : List (List KeptLine)) (k : ℕ) → k < length cs → all_of (take (k + 1) cs) ≡ all_of (take k cs) ++ get_or cs k []
joined_more cs k h = cc (take_more cs k [] h, joined_push (take k cs) (get_or cs k []))

rest_suc : (cs : List (List KeptLine)) (k : ℕ) → all_of (drop k cs) ≡ get_or cs k [] ++ all_of (drop (suc k) cs)
rest_suc [] zero = refl
rest_suc [] (suc k) = refl
rest_suc (c ∷ cs) zero = refl
rest_suc (c ∷ cs) (suc k) = rest_suc cs k

pub size_suc : (cs : List (List KeptLine)) (k : ℕ) → length (all_of (take (suc k) cs)) ≡ length (all_of (take k cs)) + length (get_or cs k [])
size_suc [] zero = refl
size_suc [] (suc k) = refl
size_suc (c ∷ cs) zero = omega (arith, length-append c [])
size_suc (c ∷ cs) (suc k) = omega (arith, size_suc cs k, length-append {A = KeptLine})

-- also behind the last chunk
pub rest_at : (cs : List (List KeptLine)) (k : ℕ) → all_of (drop k cs) ≡ get_or cs k [] ++ all_of (drop (k + 1) cs)
rest_at cs k = rw add-one (rest_suc cs k)

pub all_at : (cs : List (List KeptLine)) (k : ℕ) → all_of cs ≡ all_of (take k cs) ++ (get_or cs k [] ++ all_of (drop (k + 1) cs))
all_at cs k = cc (joined_parts cs k, rest_at cs k)

pub begins_within : (cs : List (List KeptLine)) (k : ℕ) → length (all_of (take k cs)) ≤ length (all_of cs)
begins_within cs k = omega (arith, ap length (joined_parts cs k), length-append {A = KeptLine})

pub begins_in_order : (cs : List (List KeptLine)) (m n : ℕ) → m ≤ n → length (all_of (take m cs)) ≤ length (all_of (take n cs))
begins_in_order [] zero n h = omega arith
begins_in_order [] (suc m) zero h = omega arith
begins_in_order [] (suc m) (suc n) h = omega arith
begins_in_order (c ∷ cs) zero n h = omega arith
begins_in_order (c ∷ cs) (suc m) zero h = absurd (omega arith)
begins_in_order (c ∷ cs) (suc m) (suc n) h = omega (arith, begins_in_order cs m n (omega arith), length-append {A = KeptLine})

pub size_at : (cs : List (List KeptLine)) (k : ℕ) → length (all_of (take (k + 1) cs)) ≡ length (all_of (take k cs)) + length (get_or cs k [])
size_at cs k = rw add-one (size_suc cs k)

-- a search that has come to one chunk
pub place_here : (cs : List (List KeptLine)) {before : ℕ} (low high place : ℕ) → length (all_of (take low cs)) ≤ place → place < length (all_of (take high cs)) → high ≤ length cs → high ≤ low + 1 → before ≡ length (all_of (take low cs)) → IsPlace cs place low (place - before) × ((low < length cs) × (place - before < length (get_or cs low [])))
place_here cs low high place first last inside near is =
    let order : high ≤ low → length (all_of (take high cs)) ≤ length (all_of (take low cs)) = λ h.
    begins_in_order cs high low h in
    let next : low < high = grind (arith, order) in
    let same : high ≡ low + 1 = omega arith in
    let more = rw same at last in
    let size = size_at cs low in (
      record {
        place_is = omega arith;
        offset_within = omega arith;
        chunk_within = omega arith;
      },
      (omega arith, omega arith),
    )

-- ---- the line at a place

pub line_of : (cs : List (List KeptLine)) (place k i : ℕ) (d : KeptLine) → IsPlace cs place k i → i < length (get_or cs k []) → get_or (all_of cs) place d ≡ get_or (get_or cs k []) i d
line_of cs place k i d is h = cc (is.place_is, all_at cs k, get_or-append-add (all_of (take k cs)) (get_or cs k [] ++ all_of (drop (k + 1) cs)) i d, get_or_append_left (get_or cs k []) (all_of (drop (k + 1) cs)) d i h)

-- all chunks are taken
pub all_taken : (cs : List (List KeptLine)) (k : ℕ) → length cs ≤ k → length (all_of (take k cs)) ≡ length (all_of cs)
all_taken cs k h = rw (take_all k cs h)

-- ---- cut in two at a place

pub take_seam : {cs : List (List KeptLine)} {place k i : ℕ} → IsPlace cs place k i → take place (all_of cs) ≡ all_of (take k cs) ++ take i (get_or cs k [])
take_seam {cs} {place} {k} {i} is = cc (is.place_is, all_at cs k, take-append-add (all_of (take k cs)) (get_or cs k [] ++ all_of (drop (k + 1) cs)) i, take-append-le i (get_or cs k []) (all_of (drop (k + 1) cs)) is.offset_within)

pub drop_seam : (cs : List (List KeptLine)) {place : ℕ} (k i : ℕ) → IsPlace cs place k i → drop place (all_of cs) ≡ drop i (get_or cs k []) ++ all_of (drop (k + 1) cs)
drop_seam cs k i is = cc (is.place_is, all_at cs k, drop-append-add (all_of (take k cs)) (get_or cs k [] ++ all_of (drop (k + 1) cs)) i, drop-append-le i (get_or cs k []) (all_of (drop (k + 1) cs)) is.offset_within)

-- ---- a chunk changed

pub joined_set : (cs : List (List KeptLine)) (k : ℕ) (xs : List KeptLine) → k < length cs → all_of (set cs k xs) ≡ all_of (take k cs) ++ (xs ++ all_of (drop (suc k) cs))
joined_set cs k xs h = cc (set_split cs k xs h, joined-append (take k cs) (xs ∷ drop (suc k) cs))

pub joined_set_last : (cs new : List (List KeptLine)) (k : ℕ) (more : List KeptLine) → k + 1 ≡ length cs → new ≡ set cs k (get_or cs k [] ++ more) → all_of new ≡ all_of cs ++ more
joined_set_last cs new k more h is = cc (joined_set cs k (get_or cs k [] ++ more) (omega arith), ap all_of (drop_all (k + 1) cs (omega arith)), add-one k, append-nil (get_or cs k [] ++ more), append_assoc (all_of (take k cs)) (get_or cs k []) more, all_at cs k, append-nil (get_or cs k []))

-- two ranges of lines, the second of which goes on where the first ends
pub range_joined : (xs : List KeptLine) (from at to : ℕ) → from ≤ at → at ≤ to → take (at - from) (drop from xs) ++ take (to - at) (drop at xs) ≡ take (to - from) (drop from xs)
range_joined xs from at to le more = let there : from + (at - from) ≡ at = omega arith in let whole : to - from ≡ (at - from) + (to - at) = omega arith in cc (take-add (at - from) (to - at) (drop from xs), drop-drop (at - from) from xs)

-- ---- a part put in the place of another

module _ (cs : List (List KeptLine)) (start count first before last after : ℕ)
    (p : IsPlace cs start first before) (q : IsPlace cs (start + count) last after) where
  -- what stands in front, and what behind
  pub in_front : take start (all_of cs) ≡ all_of (take first cs) ++ take before (get_or cs first [])
  in_front = take_seam p

  pub behind : drop (start + count) (all_of cs) ≡ drop after (get_or cs last []) ++ all_of (drop (last + 1) cs)
  behind = drop_seam cs _ _ q

  pub put_in : {new : List (List KeptLine)} (fresh rest : List (List KeptLine)) (lines : List KeptLine) → rest ≡ drop (last + 1) cs → new ≡ take first cs ++ (fresh ++ rest) → all_of fresh ≡ take before (get_or cs first []) ++ (lines ++ drop after (get_or cs last [])) → all_of new ≡ take start (all_of cs) ++ (lines ++ drop (start + count) (all_of cs))
  put_in fresh rest lines rest_is is made =
      let C = take before (get_or cs first []) in
      let D = drop after (get_or cs last []) in
      let F = all_of (take first cs) in
      let R = all_of (drop (last + 1) cs) in
      let shape : F ++ ((C ++ (lines ++ D)) ++ R) ≡ (F ++ C) ++ (lines ++ (D ++ R)) = simp append_assoc in
      cc (joined-append (take first cs) (fresh ++ rest), joined-append fresh rest, in_front, behind)

  -- taken out of one chunk
  pub out_of_one : {new : List (List KeptLine)} → first ≡ last → first < length cs → new ≡ set cs first (take before (get_or cs first []) ++ drop after (get_or cs first [])) → all_of new ≡ take start (all_of cs) ++ drop (start + count) (all_of cs)
  out_of_one same h is =
      let C = take before (get_or cs first []) in
      let D = drop after (get_or cs last []) in
      let F = all_of (take first cs) in
      let R = all_of (drop (last + 1) cs) in
      let shape : F ++ ((C ++ D) ++ R) ≡ (F ++ C) ++ (D ++ R) = simp append_assoc in
      cc (joined_set cs first (C ++ drop after (get_or cs first [])) h, add-one last, in_front, behind)

  pub out_of_many : (new : List (List KeptLine)) → new ≡ take first cs ++ (take before (get_or cs first []) ∷ drop after (get_or cs last []) ∷ drop (last + 1) cs) → all_of new ≡ take start (all_of cs) ++ drop (start + count) (all_of cs)
  out_of_many new is = put_in (take before (get_or cs first []) ∷ drop after (get_or cs last []) ∷ []) (drop (last + 1) cs) [] refl is (rw (append-nil (drop after (get_or cs last []))))

-- taken out between two chunks
pub between : (cs one two three : List (List KeptLine)) (first before last after size : ℕ) → first < last → last < length cs → one ≡ set cs last (drop after (get_or cs last [])) → size ≡ length (get_or one first []) → two ≡ set one first (take before (get_or one first []) ++ drop size (get_or one first [])) → three ≡ take (first + 1) two ++ drop last two → three ≡ take first cs ++ (take before (get_or cs first []) ∷ drop after (get_or cs last []) ∷ drop (last + 1) cs)
between cs one two three first before last after size h inside one_is size_is two_is three_is =
    let X = drop after (get_or cs last []) in
    let many : length one ≡ length cs = cc (length-set cs last X) in
    let here : first < length one = omega arith in
    let other : first ≢ last = omega arith in
    let same : get_or one first [] ≡ get_or cs first [] = cc (get_or-set_other cs last first X [] other) in
    let none = drop_all size (get_or one first []) (omega arith) in
    let Y = take before (get_or one first []) ++ drop size (get_or one first []) in
    let Y_is : Y ≡ take before (get_or cs first []) = cc (append-nil (take before (get_or one first []))) in
    let front : take (first + 1) two ≡ take first cs ++ Y ∷ [] = cc (take_more_set one first Y here, ap (take first) one_is ∙ take-set-le first cs last X (omega arith)) in
    let back : drop last two ≡ X ∷ drop (last + 1) cs = cc (drop-set-lt last one first Y h, drop-set cs last X inside) in
    cc (append_assoc (take first cs) (Y ∷ []) (X ∷ drop (last + 1) cs))

-- two seams that are found are in order
pub seams_in_order : {cs : List (List KeptLine)} {p q k i l j : ℕ} → IsPlace cs p k i → IsPlace cs q l j → p ≤ q → (p ≡ 0 → k ≡ 0) → (0 < p → 0 < i) → k ≤ l
seams_in_order {cs} {p} {q} {k} {i} {l} here there le first after =
    let order : l + 1 ≤ k → length (all_of (take (l + 1) cs)) ≤ length (all_of (take k cs)) = λ h.
    begins_in_order cs (l + 1) k h in
    let size = size_at cs l in
    grind (arith, order, here.place_is, there.place_is, there.offset_within, le, first, after, size)

-- the elements that a vector gave one after the other are its elements
pub drained : {X Z : Type 0} (s : IntoIter X Z) {all : List X} (xs : List X) → Drains (into_iter_steps {X = X} {Z = Z}) s xs → into_iter_items s ≡ all → into_iter_len s ≡ length all → xs ≡ all
drained s {all} xs d items many = sym (map-id xs) ∙ items_from_drains xs (d.1.0, d.1.1, λ _. (d.0, d.1.2)) (YieldsList-from_vec {s = s} all items many)

-- a chunk without lines goes
pub without_empty : {new : List (List KeptLine)} (cs : List (List KeptLine)) (k : ℕ) → length (get_or cs k []) ≡ 0 → new ≡ take k cs ++ drop (k + 1) cs → all_of new ≡ all_of cs
without_empty cs k none is = cc (joined-append (take k cs) (drop (k + 1) cs), all_at cs k, ap (λ g. g ++ all_of (drop (k + 1) cs)) (nil_from_length (get_or cs k []) none))
