-- Lists as one list, and the places where they begin.
use Rattle.{std.specs.Prelude.OnErr, line_finds.proofs.Prelude.{map, add-zero, ◌≡◌, ℕ, ◌+◌, ◌-◌, ◌<◌, ◌≤◌, List, [], ◌∷◌, ◌++◌, length, take, drop, refl, ap, sym, ◌∙◌, arith, length-append, append-nil, get_or, suc, zero, inl, inr, cases_eq, cond-true, cond-false, eq-eqb, ne_eqb, IfOk, is_err, false, Result, Ok, Err, take-take, take-add, take_more, drop_more, take_at, drop_at, take-append-drop, take_all, length-replicate, append_assoc, replicate, nat_eq, if◌then◌else◌, all_items, starts_from, cut, AreLists, flat_map-append}}

-- ---- lists one after the other

pub items-append : {X : Type 0} (xs ys : List (List X)) → all_items (xs ++ ys) ≡ all_items xs ++ all_items ys
items-append xs ys = flat_map-append (λ list. list) xs ys

pub items_parts : {X : Type 0} (lists : List (List X)) (k : ℕ) → all_items lists ≡ all_items (take k lists) ++ all_items (drop k lists)
items_parts lists k = cc (take-append-drop k lists, items-append (take k lists) (drop k lists))

pub take-items : {X : Type 0} (lists : List (List X)) (k : ℕ) → take (length (all_items (take k lists))) (all_items lists) ≡ all_items (take k lists)
take-items lists k = cc (items_parts lists k, take_at (all_items (take k lists)) (all_items (drop k lists)) _ refl)

pub drop-items : {X : Type 0} (lists : List (List X)) (k : ℕ) → drop (length (all_items (take k lists))) (all_items lists) ≡ all_items (drop k lists)
drop-items lists k = cc (items_parts lists k, drop_at (all_items (take k lists)) (all_items (drop k lists)) _ refl)

pub begins_within : {X : Type 0} (lists : List (List X)) (k : ℕ) → length (all_items (take k lists)) ≤ length (all_items lists)
begins_within lists k = omega (arith, ap length (items_parts lists k), length-append (all_items (take k lists)) (all_items (drop k lists)))

pub begins_in_order : {X : Type 0} (lists : List (List X)) (from to : ℕ) → from ≤ to → length (all_items (take from lists)) ≤ length (all_items (take to lists))
begins_in_order lists from to h = omega (arith, ap (λ some. length (all_items some)) (sym (take-take from to lists h)), begins_within (take to lists) from)

pub one_longer : {X : Type 0} (lists : List (List X)) (k : ℕ) → k < length lists → length (all_items (take (k + 1) lists)) ≡ length (all_items (take k lists)) + length (get_or lists k [])
one_longer lists k h = cc (take_more lists k [] h, items-append (take k lists) (get_or lists k [] ∷ []), length-append (all_items (take k lists)) (get_or lists k [] ++ []), append-nil (get_or lists k []))

pub list_between : {X : Type 0} (lists : List (List X)) {start end : ℕ} (k : ℕ) {items : List X} → k < length lists → items ≡ all_items lists → start ≡ length (all_items (take k lists)) → end ≡ length (all_items (take (k + 1) lists)) → take (end - start) (drop start items) ≡ get_or lists k []
list_between lists {start} {end} k h are s e =
    let size : length (get_or lists k []) ≡ end - start = omega (arith, one_longer lists k h) in
    cc (drop-items lists k, drop_more lists k [] h, take_at (get_or lists k []) (all_items (drop (k + 1) lists)) (end - start) size)

-- ---- where they begin

pub starts-append : {X : Type 0} (from : ℕ) (xs ys : List (List X)) → starts_from from (xs ++ ys) ≡ starts_from from xs ++ starts_from (from + length (all_items xs)) ys
starts-append from [] ys = rw add-zero refl
starts-append from (x ∷ xs) ys = grind (arith, length-append x (all_items xs), starts-append (from + length x) xs ys)

pub length-starts : {X : Type 0} (from : ℕ) (lists : List (List X)) → length (starts_from from lists) ≡ length lists
length-starts from [] = refl
length-starts from (list ∷ lists) = rw (length-starts (from + length list) lists)

start_at : {X : Type 0} (from : ℕ) (lists : List (List X)) (k d : ℕ) → k < length lists → get_or (starts_from from lists) k d ≡ from + length (all_items (take k lists))
start_at from [] k d h = absurd (omega arith)
start_at from (x ∷ xs) zero d h = omega arith
start_at from (x ∷ xs) (suc k) d h = start_at (from + length x) xs k d (omega arith) ∙ omega (arith, length-append x (all_items (take k xs)))

take-starts : {X : Type 0} (from : ℕ) (lists : List (List X)) (k : ℕ) → take k (starts_from from lists) ≡ starts_from from (take k lists)
take-starts from lists zero = refl
take-starts from [] (suc k) = refl
take-starts from (x ∷ xs) (suc k) = rw (take-starts (from + length x) xs k)

drop-starts : {X : Type 0} (from : ℕ) (lists : List (List X)) (k : ℕ) → drop k (starts_from from lists) ≡ starts_from (from + length (all_items (take k lists))) (drop k lists)
drop-starts from lists zero = rw add-zero refl
drop-starts from [] (suc k) = refl
drop-starts from (x ∷ xs) (suc k) = grind (arith, length-append x (all_items (take k xs)), drop-starts (from + length x) xs k)

moved-starts : {X : Type 0} (f : ℕ → ℕ) (from to : ℕ) (lists : List (List X)) → ((m : ℕ) → f (from + m) ≡ to + m) → map f (starts_from from lists) ≡ starts_from to lists
moved-starts f from to [] same = refl
moved-starts f from to (x ∷ xs) same =
    let here : f from ≡ to = cc (add-zero from, same 0, add-zero to) in
    let later : (m : ℕ) → f (from + length x + m) ≡ to + length x + m = λ m.
    (let a : from + length x + m ≡ from + (length x + m) = omega arith in
    let b : to + (length x + m) ≡ to + length x + m = omega arith in
    ap f a ∙ same (length x + m) ∙ b) in
    (λ j. here j ∷ moved-starts f (from + length x) (to + length x) xs later j)

-- ---- empty lists

no_items : (X : Type 0) (n : ℕ) → all_items {X = X} (replicate n []) ≡ []
no_items X zero = refl
no_items X (suc n) = no_items X n

same_starts : (X : Type 0) (from n : ℕ) → starts_from {X = X} from (replicate n []) ≡ replicate n from
same_starts X from zero = refl
same_starts X from (suc n) = cc (add-zero from, same_starts X from n)

-- the lists with empty ones until there are `k`, and then one more
abbrev with_list : {X : Type 0} → ℕ → List X → List (List X) → List (List X)
with_list k list lists = lists ++ (replicate (k - length lists) [] ++ list ∷ [])

pub many_with : {X : Type 0} (k : ℕ) (list : List X) (lists : List (List X)) → length lists ≤ k → length (with_list k list lists) ≡ k + 1
many_with {X} k list lists le = omega (arith, length-append lists (replicate (k - length lists) [] ++ list ∷ []), length-append (replicate (k - length lists) []) (list ∷ []), length-replicate {A = List X} (k - length lists) [])

placed : {X : Type 0} (lists : List (List X)) (n : ℕ) (list : List X) (k : ℕ) → k ≡ length lists + n → get_or (lists ++ (replicate n [] ++ list ∷ [])) k [] ≡ list
placed [] zero list zero is = refl
placed [] zero list (suc k) is = absurd (omega arith)
placed [] (suc n) list zero is = absurd (omega arith)
placed [] (suc n) list (suc k) is = placed [] n list k (omega arith)
placed (x ∷ xs) n list zero is = absurd (omega arith)
placed (x ∷ xs) n list (suc k) is = placed xs n list k (omega arith)

elsewhere : {X : Type 0} (lists : List (List X)) (n : ℕ) (list : List X) (i : ℕ) → (i ≡ length lists + n → ⊥) → get_or (lists ++ (replicate n [] ++ list ∷ [])) i [] ≡ get_or lists i []
elsewhere [] zero list zero other = absurd (other (omega arith))
elsewhere [] zero list (suc i) other = refl
elsewhere [] (suc n) list zero other = refl
elsewhere [] (suc n) list (suc i) other = elsewhere [] n list i (λ same. other (omega arith))
elsewhere (x ∷ xs) n list zero other = refl
elsewhere (x ∷ xs) n list (suc i) other = elsewhere xs n list i (λ same. other (omega arith))

pub put_at : {X : Type 0} (lists : List (List X)) (k : ℕ) (list : List X) (i : ℕ) → length lists ≤ k → get_or (with_list k list lists) i [] ≡ (if nat_eq i k then list else get_or lists i [])
put_at lists k list i le =
    let n = k - length lists in
    let place : k ≡ length lists + n = omega arith in
    elim (cases_eq i k) [
      | inl e ↦ ap (λ at. get_or (with_list k list lists) at []) e ∙ placed lists n list k place ∙ sym (cond-true _ _ _ (eq-eqb i k e))
      | inr other ↦ elsewhere lists n list i (λ same. other (omega arith)) ∙ sym (cond-false _ _ _ (ne_eqb i k other))
    ]

pub on_err : {A E P : Type 0} (result : Result A E) → P → OnErr result P
on_err (Ok a) p = tt
on_err (Err e) p = p

-- empty lists, and then the list
pub is_with : {X : Type 0} (k : ℕ) (lists : List (List X)) {mid new : List (List X)} {list whole : List X} → mid ≡ lists ++ replicate (k - length lists) [] → new ≡ mid ++ list ∷ [] → whole ≡ list → new ≡ with_list k whole lists
is_with k lists {list = list} m n same = cc (append_assoc lists (replicate (k - length lists) []) (list ∷ []))

pub only_empty : {X : Type 0} (lists : List (List X)) (n i : ℕ) → get_or (lists ++ replicate n []) i [] ≡ get_or lists i []
only_empty [] zero i = refl
only_empty [] (suc n) zero = refl
only_empty [] (suc n) (suc i) = only_empty [] n i
only_empty (x ∷ xs) n zero = refl
only_empty (x ∷ xs) n (suc i) = only_empty xs n i

pub filled_up : {X : Type 0} (lists : List (List X)) (k : ℕ) → length lists ≤ k → length (lists ++ replicate (k - length lists) []) ≡ k
filled_up {X} lists k le = length-append lists (replicate (k - length lists) []) ∙ omega (arith, length-replicate {A = List X} (k - length lists) [])

-- ---- cutting them gives the lists

cut-starts : {X : Type 0} (from : ℕ) (lists : List (List X)) → cut (starts_from from lists) (all_items lists) ≡ lists
cut-starts from [] = refl
cut-starts from (x ∷ []) = rw (append-nil x)
cut-starts from (x ∷ y ∷ ys) =
    let rest = all_items (y ∷ ys) in
    let size : length x ≡ from + length x - from = omega arith in
    cc (take_at x rest _ size, drop_at x rest _ size, cut-starts (from + length x) (y ∷ ys))

-- no list
pub are_none : {X : Type 0} {items : List X} {starts : List ℕ} → items ≡ [] → starts ≡ [] → AreLists [] items starts
are_none i s = record { items_are = i; starts_are = s }

module _ {X : Type 0} {lists : List (List X)} {items : List X} {starts : List ℕ} where
  pub are_of : cut starts items ≡ lists → AreLists (cut starts items) items starts → AreLists lists items starts
  are_of seen is = rw seen at is

  pub seen_as : AreLists lists items starts → cut starts items ≡ lists
  seen_as are = cc (are.starts_are, are.items_are, cut-starts 0 lists)

  pub are_lists : AreLists lists items starts → AreLists (cut starts items) items starts
  are_lists are = rw (seen_as are) are

  pub many_starts : AreLists lists items starts → length starts ≡ length lists
  many_starts are = cc (are.starts_are, length-starts 0 lists)

  -- what `start` reads
  pub start_of : AreLists lists items starts → (k d : ℕ) → k < length starts → get_or starts k d ≡ length (all_items (take k lists))
  start_of are k d h = ap (λ some. get_or some k d) are.starts_are ∙ (start_at 0 lists k d (omega (arith, many_starts are)) ∙ omega arith)

  -- after the last list
  pub end_of : AreLists lists items starts → (k : ℕ) → length starts ≤ k → length items ≡ length (all_items (take k lists))
  end_of are k h = cc (are.items_are, take_all k lists (omega (arith, many_starts are)))

  -- ---- a list more

  pub are_pushed : {new_items : List X} {new_starts : List ℕ} → AreLists lists items starts → (at : ℕ) (list : List X) → at ≡ length items → new_items ≡ items ++ list → new_starts ≡ starts ++ at ∷ [] → AreLists (lists ++ list ∷ []) new_items new_starts
  are_pushed are at list place i s =
      let here : at ≡ 0 + length (all_items lists) = omega (arith, ap length are.items_are) in
      record {
        items_are = cc (are.items_are, append-nil list, items-append lists (list ∷ []));
        starts_are = cc (are.starts_are, starts-append 0 lists (list ∷ []));
      }

  -- `more` is what `resize` adds
  pub are_filled : {new_starts : List ℕ} → AreLists lists items starts → (k m at : ℕ) → length lists ≤ k → m ≡ length starts → at ≡ length items → new_starts ≡ take k starts ++ replicate (k - m) at → AreLists (lists ++ replicate (k - length lists) []) items new_starts
  are_filled are k m at le m_is place s =
      let n = k - length lists in
      let count : k - m ≡ n = omega (arith, many_starts are) in
      let here : at ≡ 0 + length (all_items lists) = omega (arith, ap length are.items_are) in
      record {
        items_are = cc (are.items_are, append-nil (all_items lists), no_items X n, items-append lists (replicate n []));
        starts_are = cc (take_all k starts (omega (arith, many_starts are)), are.starts_are, same_starts X (0 + length (all_items lists)) n, starts-append 0 lists (replicate n []));
      }

  -- ---- lists removed

  pub are_without : {new_items : List X} {new_starts : List ℕ} → AreLists lists items starts → {start end : ℕ} (from to : ℕ) → from ≤ to → start ≡ length (all_items (take from lists)) → end ≡ length (all_items (take to lists)) → new_items ≡ take start items ++ drop end items → new_starts ≡ take from starts ++ map (λ s. s - (end - start)) (drop to starts) → AreLists (take from lists ++ drop to lists) new_items new_starts
  are_without are {start} {end} from to h s e i n =
      let gap : 0 + length (all_items (take to lists)) ≡ 0 + length (all_items (take from lists)) + (end - start) = omega (arith, begins_in_order lists from to h) in
      record {
        items_are = cc (are.items_are, take-items lists from, drop-items lists to, items-append (take from lists) (drop to lists));
        starts_are = cc (are.starts_are, take-starts 0 lists from, drop-starts 0 lists to, moved-starts (λ p. p - (end - start)) (0 + length (all_items (take to lists))) (0 + length (all_items (take from lists))) (drop to lists) (λ m. omega arith), starts-append 0 (take from lists) (drop to lists));
      }

-- ---- lists of another added

-- what holds of a result that is no error
pub holds : {A E X : Type 0} {x y : X} (result : Result A E) → is_err result ≡ false → IfOk result (λ _. x ≡ y) → x ≡ y
holds (Ok a) ok is = is
holds (Err e) ok is = absurd (cc)

module _ {X : Type 0} {lists others : List (List X)} {items other_items : List X} {starts other_starts : List ℕ} where
  pub are_joined : {new_items : List X} {new_starts : List ℕ} → AreLists lists items starts → AreLists others other_items other_starts → (from to start end at : ℕ) → from ≤ to → start ≡ length (all_items (take from others)) → end ≡ length (all_items (take to others)) → at ≡ length items → new_items ≡ items ++ take (end - start) (drop start other_items) → new_starts ≡ starts ++ map (λ s. s - start + at) (take (to - from) (drop from other_starts)) → AreLists (lists ++ take (to - from) (drop from others)) new_items new_starts
  are_joined are more from to start end at h s e place i n =
      let part = take (to - from) (drop from others) in
      let both : take to others ≡ take from others ++ part = (let same : to ≡ from + (to - from) = omega arith in
      ap (λ k. take k others) same ∙ take-add from (to - from) others) in
      let long : end - start ≡ length (all_items part) = omega (arith, ap (λ some. length (all_items some)) both, ap length (items-append (take from others) part), length-append (all_items (take from others)) (all_items part)) in
      let first : 0 + length (all_items (take from others)) ≡ start = omega arith in
      let here : at ≡ 0 + length (all_items lists) = omega (arith, ap length are.items_are) in
      record {
        items_are = cc (are.items_are, more.items_are, drop-items others from, take-items (drop from others) (to - from), items-append lists part);
        starts_are = cc (are.starts_are, more.starts_are, drop-starts 0 others from, take-starts (0 + length (all_items (take from others))) (drop from others) (to - from), moved-starts (λ p. p - start + at) (0 + length (all_items (take from others))) (0 + length (all_items lists)) part (λ m. omega arith), starts-append 0 lists part);
      }
