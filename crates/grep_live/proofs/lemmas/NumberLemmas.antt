-- The number of selected lines, which is the number of hits.
use Rattle.{grep_live.proofs.{Prelude.{◌≡◌, ℕ, zero, suc, ◌+◌, ◌-◌, ◌<◌, ◌≤◌, List, [], ◌∷◌, ◌++◌, length, take, drop, refl, ap, ◌∙◌, ◌⊎◌, inl, inr, arith, slice_range, Text, Expression, HoldsOfMany, Options, Inputs, Selected, file_at, Hit, HitOf, HitsFrom, Mean, HitsBetween, SelectedBefore, IsPlaceAfter, take-add, length-append}, lemmas.ListingLemmas.HitsFrom-exist}, grep_core.proofs.lemmas.Decided.dec_selected}

module _ (es : List Expression) (options : Options) where
  one : (line : Text) → Dec (Selected es options line) → ℕ
  one line (yes selected) = 1
  one line (no passed) = 0

  -- the number of selected lines
  pub number : List Text → ℕ
  number [] = 0
  number (line ∷ lines) = one line (dec_selected es options line) + number lines

  number_none : number [] ≡ 0
  unfolding number
  number_none = refl

  number-append : (xs ys : List Text) → number (xs ++ ys) ≡ number xs + number ys
  unfolding number
  number-append [] ys = omega arith
  number-append (x ∷ xs) ys = omega (arith, number-append xs ys)

  one-few : (line : Text) (d : Dec (Selected es options line)) → one line d ≤ 1
  unfolding one
  one-few line (yes selected) = omega arith
  one-few line (no passed) = omega arith

  first-few : (xs : List Text) → number (take 1 xs) ≤ 1
  unfolding number
  first-few [] = omega arith
  first-few (x ∷ xs) = omega (arith, one-few x (dec_selected es options x))

  -- ---- by a count of the session

  one_counted : (line : Text) (d : Dec (Selected es options line)) (others count : ℕ) → (Selected es options line × (count ≡ others + 1)) ⊎ ((Selected es options line → ⊥) × (count ≡ others)) → count ≡ one line d + others
  unfolding one
  one_counted line (yes selected) others count (inl (s, is)) = omega arith
  one_counted line (yes selected) others count (inr (passed, is)) = absurd (passed selected)
  one_counted line (no passed) others count (inl (s, is)) = absurd (passed s)
  one_counted line (no passed) others count (inr (p, is)) = omega arith

  many_is : (lines : List Text) (count : ℕ) → HoldsOfMany (Selected es options) lines count → count ≡ number lines
  unfolding number
  many_is [] count h = h
  many_is (line ∷ lines) count (others, h, here) = omega (arith, one_counted line (dec_selected es options line) others count here, many_is lines others h)

  one_there : (line : Text) (d : Dec (Selected es options line)) (others : ℕ) → (Selected es options line × (one line d + others ≡ others + 1)) ⊎ ((Selected es options line → ⊥) × (one line d + others ≡ others))
  unfolding one
  one_there line (yes selected) others = inl (selected, omega arith)
  one_there line (no passed) others = inr (passed, omega arith)

  many_there : (lines : List Text) → HoldsOfMany (Selected es options) lines (number lines)
  unfolding number
  many_there [] = refl
  many_there (line ∷ lines) = (number lines, many_there lines, one_there line (dec_selected es options line) (number lines))

  -- ---- by hits

  one_hit : (place : ℕ) (line : Text) (hits : List Hit) (d : Dec (Selected es options line)) → HitOf es options (place, line) hits → length hits ≡ one line d
  unfolding one
  one_hit place line hits (yes selected) (inl (s, (parts, known, is))) = rw is
  one_hit place line hits (yes selected) (inr (passed, is)) = absurd (passed selected)
  one_hit place line hits (no passed) (inl (s, (parts, known, is))) = absurd (passed s)
  one_hit place line hits (no passed) (inr (p, is)) = rw is

  -- there are as many hits as selected lines
  number_is : (first : ℕ) (lines : List Text) (hits : List Hit) → HitsFrom es options first lines hits → length hits ≡ number lines
  unfolding number
  number_is first [] hits h = ap length h
  number_is first (line ∷ lines) hits (front, rest, here, more, joined) =
      omega (arith, ap length joined, length-append front rest, one_hit first line front (dec_selected es options line) here, number_is (first + 1) lines rest more)

  -- ---- up to a place

  -- lines up to a place, by those up to an earlier one and those between
  number_cut : (from to : ℕ) (lines : List Text) → from ≤ to → number (take to lines) ≡ number (take from lines) + number (slice_range lines from to)
  number_cut from to lines h =
      let far : to ≡ from + (to - from) = omega arith in
      ap (λ n. number (take n lines)) far ∙ ap number (take-add from (to - from) lines) ∙ number-append (take from lines) (take (to - from) (drop from lines))

  number_grows : (from to : ℕ) (lines : List Text) → from ≤ to → number (take from lines) ≤ number (take to lines)
  number_grows from to lines h = omega (arith, number_cut from to lines h)

  number_next : (place : ℕ) (lines : List Text) → number (take (place + 1) lines) ≤ number (take place lines) + 1
  number_next place lines =
      let single : (place + 1) - place ≡ 1 = omega arith in
      let few : number (take ((place + 1) - place) (drop place lines)) ≤ 1 = rw single (first-few (drop place lines)) in
      omega (arith, number_cut place (place + 1) lines (omega arith))

-- ---- the hits among some lines of a file

module _ (es : List Expression) (inputs : Inputs) (k : ℕ) where
  -- they are counted by the numbers before both ends
  pub counted_between : (from to before upto count : ℕ) → from ≤ to → SelectedBefore es inputs k from before → SelectedBefore es inputs k to upto → count ≡ upto - before → (hits : List Hit) → HitsBetween es inputs k from to hits → count ≡ length hits
  counted_between from to before upto count h b u e hits are =
      let lines = (file_at inputs.files k).lines in
      omega (
        arith,
        e,
        many_is es inputs.options (take from lines) before b,
        many_is es inputs.options (take to lines) upto u,
        number_cut es inputs.options from to lines h,
        number_is es inputs.options from (slice_range lines from to) hits are,
      )

  -- those before a place
  pub counted_before : (place count : ℕ) → SelectedBefore es inputs k place count → (hits : List Hit) → HitsBetween es inputs k 0 place hits → count ≡ length hits
  counted_before place count c hits are = counted_between 0 _ 0 _ _ (omega arith) refl c (omega arith) _ are

  -- those of all lines
  pub counted_all : (end count : ℕ) → end ≡ length (file_at inputs.files k).lines → SelectedBefore es inputs k end count → (hits : List Hit) → HitsBetween es inputs k 0 (length (file_at inputs.files k).lines) hits → count ≡ length hits
  counted_all end count e c hits are = counted_before _ _ (rw e at c) _ are

-- ---- the place after a number of hits

module _ (inputs : Inputs) (k wanted : ℕ) where
  -- so many hits are before a place
  abbrev pub Suffices : ℕ → Type 0
  Suffices place = (es : List Expression) → Mean inputs es → wanted ≤ number es inputs.options (take place (file_at inputs.files k).lines)

  -- fewer are before each smaller place
  abbrev pub FewerBelow : ℕ → Type 0
  FewerBelow place = (es : List Expression) → Mean inputs es → (other : ℕ) → other < place → number es inputs.options (take other (file_at inputs.files k).lines) < wanted

  pub none_below : FewerBelow 0
  none_below = λ es meant other h. absurd (omega arith)

  pub all_suffice : (end : ℕ) → end ≡ length (file_at inputs.files k).lines → ((es : List Expression) → Mean inputs es → (hits : List Hit) → HitsBetween es inputs k 0 (length (file_at inputs.files k).lines) hits → wanted ≤ length hits) → Suffices end
  all_suffice end e enough = λ es meant.
      let lines = (file_at inputs.files k).lines in
      let some = HitsFrom-exist es inputs.options 0 (slice_range lines 0 (length lines)) in
      let whole : number es inputs.options (take end lines) ≡ number es inputs.options (take (length lines) lines) = ap (λ n. number es inputs.options (take n lines)) e in
      omega (
        arith,
        enough es meant some.0 some.1,
        number_is es inputs.options 0 (slice_range lines 0 (length lines)) some.0 some.1,
        number_cut es inputs.options 0 (length lines) lines (omega arith),
        whole,
      )

  -- one place more was looked at
  pub fewer_here : (place count : ℕ) → ((es : List Expression) → Mean inputs es → SelectedBefore es inputs k place count) → count < wanted → FewerBelow (place + 1)
  fewer_here place count c h = λ es meant other l.
      let lines = (file_at inputs.files k).lines in
      omega (arith, many_is es inputs.options (take place lines) count (c es meant), number_grows es inputs.options other place lines (omega (arith, l)))

  pub suffices_here : (place count : ℕ) → ((es : List Expression) → Mean inputs es → SelectedBefore es inputs k place count) → wanted ≤ count → Suffices place
  suffices_here place count c h = λ es meant. omega (arith, many_is es inputs.options (take place (file_at inputs.files k).lines) count (c es meant))

  no_more_than : (es : List Expression) → Mean inputs es → (place : ℕ) → FewerBelow place → number es inputs.options (take place (file_at inputs.files k).lines) ≤ wanted
  no_more_than es meant zero fewer = omega (arith, number_none es inputs.options)
  no_more_than es meant (suc place) fewer =
      let lines = (file_at inputs.files k).lines in
      let next : place + 1 ≡ suc place = omega arith in
      omega (arith, fewer es meant place (omega arith), number_next es inputs.options place lines, ap (λ n. number es inputs.options (take n lines)) next)

  pub place_found : (low high : ℕ) → high ≤ low → FewerBelow low → Suffices high → (es : List Expression) → Mean inputs es → IsPlaceAfter es inputs k wanted high
  place_found low high past fewer enough es meant =
      let lines = (file_at inputs.files k).lines in
      let below : FewerBelow high = λ fs m other l. fewer fs m other (omega arith) in
      let exact : number es inputs.options (take high lines) ≡ wanted = omega (arith, no_more_than es meant high below, enough es meant) in
      record {
        counted = rw exact at (many_there es inputs.options (take high lines));
        least = (λ other some l c. let is : some ≡ number es inputs.options (take other lines) = many_is es inputs.options (take other lines) some c in omega (arith, below es meant other l));
      }
