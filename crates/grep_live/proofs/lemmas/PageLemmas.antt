-- A page of hits, by those that are left.
use Rattle.{grep_live.proofs.{Prelude.{Bool, ◌≡◌, ℕ, zero, suc, ◌+◌, ◌-◌, ◌^◌, ◌<◌, ◌≤◌, List, [], ◌∷◌, ◌++◌, length, map, take, drop, get_or, min, Option, Result, Ok, Err, IfOk, refl, sym, ap, subst, ◌∙◌, arith, map-append, length-map, length-append, take_all, drop_all, Text, Expression, File, Inputs, Status, written, output_line, file_at, GoesOut, StopsWithin, Writes, IsStatusOfInputs, Hit, View, HitsFrom, AreHits, total_row, page_row, page_rows, all_hits, WritesPage, Mean, HitsBetween, IsFirst, IsPlaceAfter}, lemmas.{ListingLemmas.{HitsFrom-exist, with_parts}, NumberLemmas.counted_before}}, grep_session.proofs.lemmas.{Writing.{drop-next, WrittenUpTo, none_written, written_on, all_written, broken_off, one_went, one_stopped}, FitLemmas.{zip-at, zip-length}}}

-- ---- a part of a list

drop-none : (A : Type 0) (n : ℕ) → ◌≡◌ {A = List A} (drop n []) []
drop-none A zero = refl
drop-none A (suc n) = refl

take-none : (A : Type 0) (n : ℕ) → ◌≡◌ {A = List A} (take n []) []
take-none A zero = refl
take-none A (suc n) = refl

-- `count` elements from a place on, of a list and the elements after it
part_append : (A : Type 0) (s l : ℕ) (xs ys : List A) → take l (drop s (xs ++ ys)) ≡ take l (drop s xs) ++ take (l - (length xs - s)) (drop (s - length xs) ys)
part_append A s l [] ys =
    let none : ◌≡◌ {A = List A} (take l (drop s [])) [] = cc (drop-none A s, take-none A l) in
    let same_l : l - (0 - s) ≡ l = omega arith in
    let same_s : s - 0 ≡ s = omega arith in
    sym (λ i. none i ++ take (same_l i) (drop (same_s i) ys))
part_append A (suc s) l (x ∷ xs) ys =
    let same_l : l - (length xs - s) ≡ l - (suc (length xs) - suc s) = omega arith in
    let same_s : s - length xs ≡ suc s - suc (length xs) = omega arith in
    part_append A s l xs ys ∙ (λ i. take l (drop s xs) ++ take (same_l i) (drop (same_s i) ys))
part_append A zero zero (x ∷ xs) ys =
    let none : 0 ≡ 0 - (suc (length xs) - 0) = omega arith in
    ap (λ n. take n (drop (0 - suc (length xs)) ys)) none
part_append A zero (suc l) (x ∷ xs) ys =
    let same_l : l - (length xs - 0) ≡ suc l - (suc (length xs) - 0) = omega arith in
    let same_s : 0 - length xs ≡ 0 - suc (length xs) = omega arith in
    ap (λ t. x ∷ t) (part_append A zero l xs ys ∙ (λ i. take l xs ++ take (same_l i) (drop (same_s i) ys)))

pub page_none : (texts : Bool) (s l : ℕ) → page_rows texts s l [] ≡ []
page_none texts s l = ap (λ t. map (page_row texts) (take l t)) (drop-none (ℕ × Hit) s) ∙ ap (map (page_row texts)) (take-none (ℕ × Hit) l)

pub page_append : (texts : Bool) (s l n : ℕ) (xs ys : List (ℕ × Hit)) → length xs ≡ n → page_rows texts s l (xs ++ ys) ≡ page_rows texts s l xs ++ page_rows texts (s - n) (l - (n - s)) ys
page_append texts s l n xs ys e =
    ap (map (page_row texts)) (part_append (ℕ × Hit) s l xs ys) ∙ map-append (page_row texts) (take l (drop s xs)) (take (l - (length xs - s)) (drop (s - length xs) ys))
    ∙ ap (λ m. page_rows texts s l xs ++ page_rows texts (s - m) (l - (m - s)) ys) e

-- ---- hits that are not looked for

-- all are skipped
pub all_passed : (texts : Bool) (s l : ℕ) (xs : List (ℕ × Hit)) → length xs ≤ s → page_rows texts s l xs ≡ []
all_passed texts s l xs h = ap (λ t. map (page_row texts) (take l t)) (drop_all s xs h) ∙ ap (map (page_row texts)) (take-none (ℕ × Hit) l)

-- the page is full
pub page_full : (texts : Bool) (s : ℕ) (l : ℕ) (xs : List (ℕ × Hit)) → l ≡ 0 → page_rows texts s l xs ≡ []
page_full texts s l xs e = rw e

-- as many as are skipped come first
pub page_after : (texts : Bool) (s l : ℕ) (front back : List (ℕ × Hit)) → s ≡ length front → page_rows texts s l (front ++ back) ≡ page_rows texts 0 l back
page_after texts s l front back e =
    let skip : s - s ≡ 0 = omega arith in
    let left : l - (s - s) ≡ l = omega arith in
    page_append _ s l s _ _ (sym e) ∙ ap (λ rows. rows ++ page_rows texts (s - s) (l - (s - s)) back) (all_passed _ s l _ (omega arith)) ∙ (λ i. page_rows texts (skip i) (left i) back)

-- one of those that are left
page_next : (texts : Bool) (l : ℕ) (x : ℕ × Hit) (xs : List (ℕ × Hit)) → 0 < l → page_rows texts 0 l (x ∷ xs) ≡ page_row texts x ∷ page_rows texts 0 (l - 1) xs
page_next texts zero x xs h = absurd (omega arith)
page_next texts (suc l) x xs h =
    let same : l ≡ suc l - 1 = omega arith in
    ap (λ n. page_row texts x ∷ page_rows texts 0 n xs) same

-- ---- the hits of some lines of one file

module _ (texts : Bool) (inputs : Inputs) (k from to count : ℕ) {W : Type 0} (contents : W → Option Text) (failures : W → ℕ) (margin : Text) where
  abbrev rows : ℕ → List Hit → List Text
  rows left hits = page_rows texts 0 left (map (λ hit. (k, hit)) hits)

  -- this number of hits was shown, and these are left
  pub record ShownUpTo (old now : W) (es : List Expression) (place shown : ℕ) (all : List Hit) : Type 0 where
    pub rest : List Hit
    pub are_rest : HitsBetween es inputs k place to rest
    pub counted : length all ≡ shown + length rest
    pub wrote : WrittenUpTo contents failures margin old now (page_rows texts 0 count (map (λ hit. (k, hit)) all)) (page_rows texts 0 (count - shown) (map (λ hit. (k, hit)) rest))

  abbrev pub Shows : W → W → ℕ → ℕ → Type 0
  Shows old now place shown = (es : List Expression) → Mean inputs es → (all : List Hit) → HitsBetween es inputs k from to all → ShownUpTo old now es place shown all

  pub shown_none : (a : W) → Shows a a from 0
  shown_none a = λ es meant all hits.
      let whole : count ≡ count - 0 = omega arith in
      record {
        rest = all;
        are_rest = hits;
        counted = omega arith;
        wrote = subst (λ n. WrittenUpTo contents failures margin a a (rows count all) (rows n all)) whole (none_written contents failures margin a (rows count all));
      }

  module _ (es : List Expression) (all : List Hit) (a b : W) (place shown : ℕ) (s : ShownUpTo a b es place shown all) where
    module _ (at : ℕ) (text : Text) (parts : List (ℕ × ℕ)) (f : IsFirst es inputs k to at text parts s.rest) (more : shown < count) (c : W) where
      abbrev row : Text
      row = page_row texts (k, record { place = at; text = text; parts = parts })

      next_row : rows (count - shown) s.rest ≡ row ∷ rows (count - (shown + 1)) f.rest
      next_row =
          let one_less : (count - shown) - 1 ≡ count - (shown + 1) = omega arith in
          ap (rows (count - shown)) f.joined ∙ page_next texts (count - shown) (k, record { place = at; text = text; parts = parts }) (map (λ hit. (k, hit)) f.rest) (omega arith) ∙ ap (λ n. row ∷ rows n f.rest) one_less

      pub shown_one : GoesOut contents failures b c (output_line margin (page_row texts (k, record { place = at; text = text; parts = parts }))) → ShownUpTo a c es (at + 1) (shown + 1) all
      shown_one went = record {
        rest = f.rest;
        are_rest = f.are_rest;
        counted = omega (arith, s.counted, ap length f.joined);
        wrote = written_on contents failures margin a b c (rows count all) (rows (count - shown) s.rest) (row ∷ []) (rows (count - (shown + 1)) f.rest) next_row s.wrote (one_went contents failures margin b c row went);
      }

      pub shown_stops : StopsWithin contents failures b c (output_line margin (page_row texts (k, record { place = at; text = text; parts = parts }))) → StopsWithin contents failures a c (written margin (page_rows texts 0 count (map (λ hit. (k, hit)) all)))
      shown_stops stops = broken_off contents failures margin a b c (rows count all) (rows (count - shown) s.rest) (row ∷ []) (rows (count - (shown + 1)) f.rest) next_row s.wrote (one_stopped contents failures margin b c row stops)

    -- no hit is left
    module _ (none : s.rest ≡ []) where
      pub shown_all : GoesOut contents failures a b (written margin (page_rows texts 0 count (map (λ hit. (k, hit)) all)))
      shown_all = all_written contents failures margin a b (rows count all) (rows (count - shown) s.rest) (cc (page_none _ 0 _)) s.wrote

      pub shown_rest : count - shown ≡ count - length all
      shown_rest = omega (arith, s.counted, ap length none)

    -- the page is full
    module _ (full : count ≤ shown) where
      pub full_all : GoesOut contents failures a b (written margin (page_rows texts 0 count (map (λ hit. (k, hit)) all)))
      full_all =
          let none : count - shown ≡ 0 = omega arith in
          all_written contents failures margin a b (rows count all) (rows (count - shown) s.rest) (page_full _ 0 _ _ none) s.wrote

      pub full_rest : 0 ≡ count - length all
      full_rest = omega (arith, s.counted)

-- ---- the hits of one file

-- those after a place before which as many are as the page skips
pub record IsShownFrom (texts : Bool) (es : List Expression) (inputs : Inputs) (k place skip left : ℕ) (hits : List Hit) : Type 0 where
  pub shown : List Hit
  pub are_shown : HitsBetween es inputs k place (length (file_at inputs.files k).lines) shown
  pub counted : length hits ≡ skip + length shown
  pub rows : page_rows texts skip left (map (λ hit. (k, hit)) hits) ≡ page_rows texts 0 left (map (λ hit. (k, hit)) shown)

pub shown_from : (texts : Bool) (es : List Expression) (inputs : Inputs) (k place skip left : ℕ) (hits : List Hit) → place ≤ length (file_at inputs.files k).lines → IsPlaceAfter es inputs k skip place → HitsBetween es inputs k 0 (length (file_at inputs.files k).lines) hits → IsShownFrom texts es inputs k place skip left hits
shown_from texts es inputs k place skip left hits within is are =
    let p = with_parts es inputs k 0 place (length (file_at inputs.files k).lines) hits (omega arith) within within are in
    let skipped = counted_before es inputs k place skip is.counted p.front p.is_front in
    record {
      shown = p.back;
      are_shown = p.is_back;
      counted = omega (arith, ap length p.joined, length-append p.front p.back);
      rows = ap (λ l. page_rows texts skip left (map (λ hit. (k, hit)) l)) p.joined ∙ ap (page_rows texts skip left) (map-append (λ hit. (k, hit)) p.front p.back)
          ∙ page_after texts skip left (map (λ hit. (k, hit)) p.front) (map (λ hit. (k, hit)) p.back) (skipped ∙ sym (length-map p.front (λ hit. (k, hit))));
    }

-- ---- the hits of all files

-- all lines of a file
whole_slice : (es : List Expression) (inputs : Inputs) (k : ℕ) (hits : List Hit) → HitsFrom es inputs.options 0 (file_at inputs.files k).lines hits → HitsBetween es inputs k 0 (length (file_at inputs.files k).lines) hits
whole_slice es inputs k hits h =
    let lines = (file_at inputs.files k).lines in
    rw (take_all (length lines - 0) lines (omega arith)) h

-- the hits of file k in a view
pub hits_at : (es : List Expression) (inputs : Inputs) (view : View) (k : ℕ) → k < length inputs.files → AreHits es inputs.options inputs.files view → HitsBetween es inputs k 0 (length (file_at inputs.files k).lines) (get_or view k [])
hits_at es inputs view k inside are = whole_slice es inputs k (get_or view k []) (zip-at (λ (file : File) (hits : List Hit). HitsFrom es inputs.options 0 file.lines hits) inputs.files view k (file_at [] k) [] inside are)

next_file : (view : View) (k : ℕ) → k < length view → all_hits k (drop k view) ≡ map (λ hit. (k, hit)) (get_or view k []) ++ all_hits (k + 1) (drop (k + 1) view)
next_file view k inside = rw (drop-next view k [] inside)

pub view_long : (es : List Expression) (inputs : Inputs) (view : View) → AreHits es inputs.options inputs.files view → length inputs.files ≡ length view
view_long es inputs view are = zip-length (λ (file : File) (hits : List Hit). HitsFrom es inputs.options 0 file.lines hits) inputs.files view are

-- this number was counted in the first files
pub record CountedFiles (view : View) (k total : ℕ) : Type 0 where
  pub passed : ℕ
  pub counted : passed + length (all_hits k (drop k view)) ≡ length (all_hits 0 view)
  pub is_total : total ≡ min passed (2 ^ 64 - 1)

pub files_none : (view : View) → CountedFiles view 0 0
files_none view = record { passed = 0; counted = omega arith; is_total = omega arith }

pub files_on : (view : View) (k total found now : ℕ) → k < length view → CountedFiles view k total → found ≡ length (get_or view k []) → now ≡ min (total + found) (2 ^ 64 - 1) → CountedFiles view (k + 1) now
files_on view k total found now inside s f e =
    let long =
    ap length (next_file view k inside) ∙ length-append (map (λ hit. (k, hit)) (get_or view k [])) (all_hits (k + 1) (drop (k + 1) view)) ∙ ap (λ n. n + length (all_hits (k + 1) (drop (k + 1) view))) (length-map (get_or view k []) (λ hit. (k, hit))) in
    record { passed = s.passed + found; counted = omega (arith, s.counted); is_total = omega (arith, s.is_total) }

pub files_all : (view : View) (k total : ℕ) → length view ≤ k → CountedFiles view k total → total ≡ min (length (all_hits 0 view)) (2 ^ 64 - 1)
files_all view k total past s =
    let none : length (all_hits k (drop k view)) ≡ 0 = rw (drop_all k view past) in
    let all : s.passed ≡ length (all_hits 0 view) = omega (arith, s.counted) in
    s.is_total ∙ ap (λ n. min n (2 ^ 64 - 1)) all

module _ (texts : Bool) {W : Type 0} (contents : W → Option Text) (failures : W → ℕ) (margin : Text) (first count : ℕ) (view : View) (a b c : W) where
  abbrev pub PagedUpTo : W → W → ℕ → ℕ → ℕ → Type 0
  PagedUpTo old now k skip left = WrittenUpTo contents failures margin old now (page_rows texts first count (all_hits 0 view)) (page_rows texts skip left (all_hits k (drop k view)))

  module _ (k skip left : ℕ) (inside : k < length view) (s : PagedUpTo a b k skip left) where
    next_page : page_rows texts skip left (all_hits k (drop k view)) ≡ page_rows texts skip left (map (λ hit. (k, hit)) (get_or view k [])) ++ page_rows texts (skip - length (get_or view k [])) (left - (length (get_or view k []) - skip)) (all_hits (k + 1) (drop (k + 1) view))
    next_page =
        ap (page_rows texts skip left) (next_file view k inside) ∙ page_append texts skip left (length (get_or view k [])) (map (λ hit. (k, hit)) (get_or view k [])) (all_hits (k + 1) (drop (k + 1) view)) (length-map (get_or view k []) (λ hit. (k, hit)))

    pub paged_on : (skip_now left_now : ℕ) → skip_now ≡ skip - length (get_or view k []) → left_now ≡ left - (length (get_or view k []) - skip) → GoesOut contents failures b c (written margin (page_rows texts skip left (map (λ hit. (k, hit)) (get_or view k [])))) → PagedUpTo a c (k + 1) skip_now left_now
    paged_on skip_now left_now is_skip is_left went =
        subst (λ (p : ℕ × ℕ). PagedUpTo a c (k + 1) p.0 p.1) (λ i. (sym is_skip i, sym is_left i))
        (written_on contents failures margin a b c (page_rows texts first count (all_hits 0 view)) (page_rows texts skip left (all_hits k (drop k view))) (page_rows texts skip left (map (λ hit. (k, hit)) (get_or view k []))) (page_rows texts (skip - length (get_or view k [])) (left - (length (get_or view k []) - skip)) (all_hits (k + 1) (drop (k + 1) view))) next_page s went)

    pub paged_stops : StopsWithin contents failures b c (written margin (page_rows texts skip left (map (λ hit. (k, hit)) (get_or view k [])))) → StopsWithin contents failures a c (written margin (page_rows texts first count (all_hits 0 view)))
    paged_stops stopped =
        broken_off contents failures margin a b c (page_rows texts first count (all_hits 0 view)) (page_rows texts skip left (all_hits k (drop k view))) (page_rows texts skip left (map (λ hit. (k, hit)) (get_or view k []))) (page_rows texts (skip - length (get_or view k [])) (left - (length (get_or view k []) - skip)) (all_hits (k + 1) (drop (k + 1) view))) next_page s stopped

  pub paged_all : (k skip left : ℕ) → length view ≤ k → PagedUpTo a b k skip left → GoesOut contents failures a b (written margin (page_rows texts first count (all_hits 0 view)))
  paged_all k skip left past s =
      all_written contents failures margin a b (page_rows texts first count (all_hits 0 view)) (page_rows texts skip left (all_hits k (drop k view))) (cc (drop_all k view past, page_none _ _ _)) s

-- ---- what is shown

hits_exist : (es : List Expression) (inputs : Inputs) (files : List File) → (view : View) × AreHits es inputs.options files view
hits_exist es inputs [] = ([], tt)
hits_exist es inputs (file ∷ files) =
    let own = HitsFrom-exist es inputs.options 0 file.lines in
    let more = hits_exist es inputs files in
    (own.0 ∷ more.0, (own.1, more.1))

module _ (texts : Bool) {W : Type 0} (contents : W → Option Text) (failures : W → ℕ) (margin : Text) (begun ended : W) (inputs : Inputs) (first count : ℕ) (status : Status) where
  pub shows_page : (E : Type 0) (result : Result Status E) → IsStatusOfInputs inputs status →
      ((es : List Expression) → Mean inputs es → (view : View) → AreHits es inputs.options inputs.files view →
      Writes contents failures begun ended (written margin (total_row (min (length (all_hits 0 view)) (2 ^ 64 - 1)) ∷ page_rows texts first count (all_hits 0 view))) result) →
      IfOk result (λ answer. answer ≡ status) → WritesPage contents failures margin texts begun ended inputs first count result
  shows_page E result is wrote e =
      let grep = is.grep in
      let view = hits_exist grep.es inputs inputs.files in
      record {
        all = record { es = grep.es; are_meant = grep.are_meant; view = view.0; are_hits = view.1; status = grep.status; is_status = grep.is_status };
        wrote = wrote grep.es grep.are_meant view.0 view.1;
        answered = by_result result e;
      }
    where
      by_result : (r : Result Status E) → IfOk r (λ answer. answer ≡ status) → IfOk r (λ answer. answer ≡ is.grep.status)
      by_result (Ok answer) e = e ∙ is.answered
      by_result (Err fault) e = tt
