-- Lines with what is found in each, looked up by their numbers.
use Rattle.line_chunks.proofs.Prelude.{◌≡◌, ℕ, suc, zero, ◌+◌, ◌-◌, ◌<◌, ◌≤◌, List, [], ◌∷◌, ◌++◌, length, map, take, drop, get_or, refl, ap, sym, arith, add-zero, length-append, length-take, length-drop, Text, no_finds, FoundIn, finds_at, numbers_at, without, paired_before, KeptLine, no_line, new_line, line_text, matched_count, seen_from, seen, line_without, get_or-map, length-map, bare}

pub length-seen : (k : ℕ) (texts : List Text) (found : FoundIn) → length (seen_from k texts found) ≡ length texts
length-seen k [] found = refl
length-seen k (text ∷ texts) found = rw (length-seen (suc k) texts found)

pub texts-seen : (k : ℕ) (texts : List Text) (found : FoundIn) → map line_text (seen_from k texts found) ≡ texts
texts-seen k [] found = refl
texts-seen k (text ∷ texts) found = rw (texts-seen (suc k) texts found)

pub seen-append : (k : ℕ) (xs ys : List Text) (found : FoundIn) → seen_from k (xs ++ ys) found ≡ seen_from k xs found ++ seen_from (k + length xs) ys found
seen-append k [] ys found = rw add-zero refl
seen-append k (x ∷ xs) ys found = let same : suc k + length xs ≡ k + suc (length xs) = omega arith in cc (seen-append (suc k) xs ys found)

-- lines that move take what is found in them along: it is enough that the same is found in each
pub seen_moved : (from to : ℕ) (texts : List Text) (f g : FoundIn) → ((i : ℕ) → i < length texts → finds_at f (from + i) ≡ finds_at g (to + i)) → seen_from from texts f ≡ seen_from to texts g
seen_moved from to [] f g same = refl
seen_moved from to (text ∷ texts) f g same =
    let first : finds_at f from ≡ finds_at g to = cc (add-zero from, same 0 (omega arith), add-zero to) in
    let later : (i : ℕ) → i < length texts → finds_at f (suc from + i) ≡ finds_at g (suc to + i) = λ i h.
    (let a : suc from + i ≡ from + suc i = omega arith in
    let b : to + suc i ≡ suc to + i = omega arith in
    cc (same (suc i) (omega arith))) in
    cc (seen_moved (suc from) (suc to) texts f g later)

-- what is seen of a line
pub line_seen : (k : ℕ) (texts : List Text) (found : FoundIn) (i : ℕ) → i < length texts → get_or (seen_from k texts found) i no_line ≡ record { text = get_or texts i []; found = finds_at found (k + i) }
line_seen k [] found i h = absurd (omega arith)
line_seen k (text ∷ texts) found zero h = ap (λ at. record { text = text; found = finds_at found at }) (sym (add-zero k))
line_seen k (text ∷ texts) found (suc i) h = let same : suc k + i ≡ k + suc i = omega arith in cc (line_seen (suc k) texts found i (omega arith))

pub take-seen : (k n : ℕ) (texts : List Text) (found : FoundIn) → take n (seen_from k texts found) ≡ seen_from k (take n texts) found
take-seen k zero [] found = refl
take-seen k zero (text ∷ texts) found = refl
take-seen k (suc n) [] found = refl
take-seen k (suc n) (text ∷ texts) found = rw (take-seen (suc k) n texts found)

pub drop-seen : (k n : ℕ) (texts : List Text) (found : FoundIn) → drop n (seen_from k texts found) ≡ seen_from (k + n) (drop n texts) found
drop-seen k zero [] found = refl
drop-seen k zero (text ∷ texts) found = ap (λ at. seen_from at (text ∷ texts) found) (sym (add-zero k))
drop-seen k (suc n) [] found = refl
drop-seen k (suc n) (text ∷ texts) found = let same : suc k + n ≡ k + suc n = omega arith in cc (drop-seen (suc k) n texts found)

-- ---- matched lines

pub matched_seen : (k : ℕ) (texts : List Text) (found : FoundIn) → paired_before (k + length texts) found.pairs ≡
    paired_before k found.pairs + matched_count (seen_from k texts found)
matched_seen k [] found = let same = add-zero k in let all = ap (λ n. paired_before n found.pairs) same in omega arith
matched_seen k (text ∷ texts) found =
    let same : k + suc (length texts) ≡ suc k + length texts = omega arith in
    let all = ap (λ n. paired_before n found.pairs) same in
    omega (arith, matched_seen (suc k) texts found)

pub hits_seen : (texts : List Text) (found : FoundIn) {hits : ℕ} → found.size ≡ length texts → hits ≡ paired_before found.size found.pairs → hits ≡ matched_count (seen texts found)
hits_seen texts found size is =
    let all = matched_seen 0 texts found in
    let same : 0 + length texts ≡ found.size = omega arith in
    let here = ap (λ n. paired_before n found.pairs) same in
    omega arith

-- ---- a pattern is removed

pub seen_without : (k p : ℕ) (texts : List Text) (f g : FoundIn) → ((i : ℕ) → finds_at g i ≡ record { numbers = without p (numbers_at i f.pairs); spans = get_or f.parts i [] }) → seen_from k texts g ≡ map (line_without p) (seen_from k texts f)
seen_without k p [] f g each = refl
seen_without k p (text ∷ texts) f g each = cc (each k, seen_without (suc k) p texts f g each)

-- ---- lines are added

-- the same is found in the lines that were there
pub seen_same : (texts : List Text) (f g : FoundIn) → f.size ≡ length texts → ((k : ℕ) → k < f.size → finds_at g k ≡ finds_at f k) → seen texts g ≡ seen texts f
seen_same texts f g size old = seen_moved 0 0 texts g f (λ i h. (let at : 0 + i ≡ i = omega arith in cc (old i (omega arith))))

pub line_added : {new : List Text} (texts : List Text) (text : Text) (f g : FoundIn) → f.size ≡ length texts → new ≡ texts ++ text ∷ [] → ((k : ℕ) → k < f.size → finds_at g k ≡ finds_at f k) → finds_at g f.size ≡ no_finds → seen new g ≡ seen texts f ++ new_line text ∷ []
line_added texts text f g size is old last = let here : 0 + length texts ≡ f.size = omega arith in cc (seen-append 0 texts (text ∷ []) g, seen_same texts f g size old)

pub part_added : {new : List Text} (texts others : List Text) (f g h : FoundIn) (from to : ℕ) → f.size ≡ length texts → to ≤ length others → from ≤ to → new ≡ texts ++ take (to - from) (drop from others) → ((k : ℕ) → k < f.size → finds_at g k ≡ finds_at f k) → ((k : ℕ) → k < to - from → finds_at g (f.size + k) ≡ finds_at h (from + k)) → seen new g ≡ seen texts f ++ take (to - from) (drop from (seen others h))
part_added texts others f g h from to size within order is old more =
    let xs = take (to - from) (drop from others) in
    let many : length xs ≤ to - from = omega (arith, length-take (to - from) (drop from others)) in
    let moved : (i : ℕ) → i < length xs → finds_at g (0 + length texts + i) ≡ finds_at h (0 + from + i) = λ i inside.
    (let at : 0 + length texts + i ≡ f.size + i = omega arith in
    let to_at : from + i ≡ 0 + from + i = omega arith in
    cc (more i (omega arith))) in
    cc (seen-append 0 texts xs g, seen_same texts f g size old, seen_moved (0 + length texts) (0 + from) xs g h moved, take-seen (0 + from) (to - from) (drop from others) h, drop-seen 0 from others h)

-- ---- lines are removed

pub lines_removed : {new : List Text} (texts : List Text) (f g : FoundIn) (from to : ℕ) → from ≤ to → to ≤ length texts → new ≡ take from texts ++ drop to texts → ((k : ℕ) → k < from → finds_at g k ≡ finds_at f k) → ((k : ℕ) → finds_at g (from + k) ≡ finds_at f (to + k)) → seen new g ≡ take from (seen texts f) ++ drop to (seen texts f)
lines_removed texts f g from to order within is before after =
    let size : length (take from texts) ≡ from = omega (arith, length-take from texts) in
    let same : (i : ℕ) → i < length (take from texts) → finds_at g (0 + i) ≡ finds_at f (0 + i) = λ i h.
    (let at : 0 + i ≡ i = omega arith in
    cc (before i (omega arith))) in
    let moved : (i : ℕ) → i < length (drop to texts) → finds_at g (0 + length (take from texts) + i) ≡ finds_at f (0 + to + i) = λ i h.
    (let at : 0 + length (take from texts) + i ≡ from + i = omega arith in
    let to_at : to + i ≡ 0 + to + i = omega arith in
    cc (after i)) in
    cc (seen-append 0 (take from texts) (drop to texts) g, seen_moved 0 0 (take from texts) g f same, seen_moved (0 + length (take from texts)) (0 + to) (drop to texts) g f moved, take-seen 0 from texts f, drop-seen 0 to texts f)

-- ---- a chunk's lines, of which the text and what is found are kept apart

module _ (lines : List Text) (found : FoundIn) {kept : List KeptLine} (view : seen (map bare lines) found ≡ kept) where
  pub texts_are : map bare lines ≡ map line_text kept
  texts_are = cc (texts-seen 0 (map bare lines) found)

  pub as_many : length lines ≡ length kept
  as_many = cc (length-map lines bare, length-seen 0 (map bare lines) found)

  seen_at : (k : ℕ) → k < length kept → record { text = bare (get_or lines k []); found = finds_at found k } ≡ get_or kept k no_line
  seen_at k h =
      let at : k ≡ 0 + k = omega arith in
      let inside : k < length lines = omega (arith, as_many) in
      cc (get_or-map bare lines k [] [] inside, line_seen 0 (map bare lines) found k (omega (arith, length-map lines bare)))

  pub text_at : (k : ℕ) → k < length kept → bare (get_or lines k []) ≡ line_text (get_or kept k no_line)
  text_at k h = ap line_text (seen_at k h)

  pub found_at : (k : ℕ) → k < length kept → finds_at found k ≡ (get_or kept k no_line).found
  found_at k h = ap (λ (line : KeptLine). line.found) (seen_at k h)

-- ---- as many findings as lines

pub size_removed : {new : List Text} (texts : List Text) (f g : FoundIn) (from to : ℕ) → from ≤ to → to ≤ length texts → f.size ≡ length texts → new ≡ take from texts ++ drop to texts → g.size ≡ f.size - (to - from) → g.size ≡ length new
size_removed texts f g from to order within size is less = omega (arith, ap length is, length-append (take from texts) (drop to texts), length-take from texts, length-drop to texts)

pub size_added : {new : List Text} (texts others : List Text) (f g : FoundIn) (from to : ℕ) → f.size ≡ length texts → to ≤ length others → from ≤ to → new ≡ texts ++ take (to - from) (drop from others) → g.size ≡ f.size + (to - from) → g.size ≡ length new
size_added texts others f g from to size within order is more = omega (arith, ap length is, length-append texts (take (to - from) (drop from others)), length-take (to - from) (drop from others), length-drop from others)
