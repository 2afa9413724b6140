-- The hits of lines, one line after the other: there are some, and no others.
use Rattle.{grep_live.proofs.Prelude.{◌≡◌, ℕ, zero, suc, ◌+◌, ◌-◌, ◌<◌, ◌≤◌, Bool, true, false, List, [], ◌∷◌, ◌++◌, length, map, take, drop, get_or, Option, Some, MatchBool, MatchOption, refl, sym, ap, subst, ◌∙◌, ◌⊎◌, inl, inr, arith, append_assoc, slice_range, enumerate_from, Text, Expression, AreParts, Span, Options, Inputs, Selected, file_at, ListedParts, span_places, Hit, HitOf, HitsFrom, HitsBetween, IsFirst, drop-cons, take-add, cases_lt, drop-drop, length-take-le, length-drop}, re_syntax.proofs.lemmas.{PartsExist.AreParts-exist, PartsLaws.ArePartsFrom-unique}, grep_core.proofs.lemmas.{ChooseLaws.EachGives-exist, Decided.dec_selected}}

-- lines from a place on are the one there and those after it
slice_next : (lines : List Text) (place to : ℕ) → place < to → to ≤ length lines → slice_range lines place to ≡ get_or lines place [] ∷ slice_range lines (place + 1) to
slice_next lines place to h l =
    let more : to - place ≡ suc (to - (place + 1)) = omega arith in
    let next : suc place ≡ place + 1 = omega arith in
    (λ i. take (more i) (drop-cons lines place [] (omega arith) i)) ∙ ap (λ p. get_or lines place [] ∷ take (to - (place + 1)) (drop p lines)) next

module _ (es : List Expression) (options : Options) where
  -- ---- there are some, and no others

  listed-exist : (line : Text) → (parts : List (ℕ × ℕ)) × ListedParts es options line parts
  listed-exist line = by_flag options.only_matching
    where
      by_flag : (asked : Bool) → (parts : List (ℕ × ℕ)) × MatchBool asked (AreParts es line options.line_regexp parts) (parts ≡ [])
      by_flag true = AreParts-exist es line options.line_regexp
      by_flag false = ([], refl)

  listed-unique : (line : Text) (ps qs : List (ℕ × ℕ)) → ListedParts es options line ps → ListedParts es options line qs → ps ≡ qs
  listed-unique line ps qs p q = by_flag options.only_matching p q
    where
      by_flag : (asked : Bool) → MatchBool asked (AreParts es line options.line_regexp ps) (ps ≡ []) → MatchBool asked (AreParts es line options.line_regexp qs) (qs ≡ []) → ps ≡ qs
      by_flag true p q = ArePartsFrom-unique es line options.line_regexp ps qs 0 p q
      by_flag false p q = p ∙ sym q

  HitOf-exist : (line : ℕ × Text) → (hits : List Hit) × HitOf es options line hits
  HitOf-exist line = by_verdict (dec_selected es options line.1)
    where
      by_verdict : Dec (Selected es options line.1) → (hits : List Hit) × HitOf es options line hits
      by_verdict (yes s) = let known = listed-exist line.1 in (record { place = line.0; text = line.1; parts = known.0 } ∷ [], inl (s, (known.0, known.1, refl)))
      by_verdict (no s) = ([], inr (s, refl))

  pub HitsFrom-exist : (first : ℕ) (lines : List Text) → (hits : List Hit) × HitsFrom es options first lines hits
  HitsFrom-exist first lines = EachGives-exist _ HitOf-exist (enumerate_from first lines)

  -- ---- a line by what a session returns for it

  module _ {H : Type 0} (text : H → Text) (parts : H → List Span) (place : ℕ) (line : Text) (found : Option H) (hits : List Hit)
      (answers : MatchOption found (Selected es options line → ⊥) (λ hit. Selected es options line × (text hit ≡ line) × ListedParts es options line (map span_places (parts hit)))) (is_hit : HitOf es options (place, line) hits) where
    pub one_here : (hit : H) → found ≡ Some hit → hits ≡ record { place = place; text = text hit; parts = map span_places (parts hit) } ∷ []
    one_here hit e = by_case is_hit
      where
        some : Selected es options line × (text hit ≡ line) × ListedParts es options line (map span_places (parts hit))
        some = rw e at answers

        by_case : HitOf es options (place, line) hits → hits ≡ record { place = place; text = text hit; parts = map span_places (parts hit) } ∷ []
        by_case (inl (selected, (ps, known, is))) =
            let same = listed-unique line ps (map span_places (parts hit)) known some.2 in
            is ∙ (λ i. record { place = place; text = sym some.1 i; parts = same i } ∷ [])
        by_case (inr (passed, is)) = absurd (passed some.0)

-- ---- one line after the other

-- the hits of the next line, and those of the lines after it
pub record Next (es : List Expression) (inputs : Inputs) (k place to : ℕ) (left : List Hit) : Type 0 where
  pub here : List Hit
  pub rest : List Hit
  pub is_here : HitOf es inputs.options (place, get_or (file_at inputs.files k).lines place []) here
  pub is_rest : HitsBetween es inputs k (place + 1) to rest
  pub joined : left ≡ here ++ rest

pub next_hits : (es : List Expression) (inputs : Inputs) (k place to : ℕ) (left : List Hit) → place < to → to ≤ length (file_at inputs.files k).lines → HitsBetween es inputs k place to left → Next es inputs k place to left
next_hits es inputs k place to left h l hits =
    let lines = (file_at inputs.files k).lines in
    let next = rw (slice_next _ _ to h l) at hits in
    record { here = next.0; rest = next.1; is_here = next.2; is_rest = next.3; joined = next.4 }

-- after the last line there are none
pub no_more : (es : List Expression) (inputs : Inputs) (k place to : ℕ) (left : List Hit) → to ≤ place → HitsBetween es inputs k place to left → left ≡ []
no_more es inputs k place to left h hits =
    let none : to - place ≡ 0 = omega arith in
    rw none at hits

-- where none begins before the end there are none
none_after : (es : List Expression) (inputs : Inputs) (k place to : ℕ) → to ≤ place → HitsBetween es inputs k place to []
none_after es inputs k place to h =
    let none : 0 ≡ to - place = omega arith in
    subst (λ n. HitsFrom es inputs.options place (take n (drop place (file_at inputs.files k).lines)) []) none refl

-- ---- from hit to hit

-- none of the lines from a place on and before the next is selected
abbrev pub NoneBetween : List Expression → Inputs → ℕ → ℕ → ℕ → Type 0
NoneBetween es inputs k from next = (i : ℕ) → from ≤ i → i < next → Selected es inputs.options (get_or (file_at inputs.files k).lines i []) → ⊥

-- the hits from there on are those from the next place on
pub passed_to : (es : List Expression) (inputs : Inputs) (k to next n from : ℕ) → next ≡ from + n → to ≤ length (file_at inputs.files k).lines → NoneBetween es inputs k from next → (hits : List Hit) → HitsBetween es inputs k from to hits → HitsBetween es inputs k next to hits
passed_to es inputs k to next zero from e within none hits h =
    let same : from ≡ next = omega arith in
    rw same at h
passed_to es inputs k to next (suc n) from e within none hits h = by_place (cases_lt from to) (passed_to es inputs k to next n (from + 1) (omega arith) within (λ i low high. none i (omega arith) high))
  where
    no_hit : (here : List Hit) → HitOf es inputs.options (from, get_or (file_at inputs.files k).lines from []) here → here ≡ []
    no_hit here (inl (selected, known)) = absurd (none from (omega arith) (omega arith) selected)
    no_hit here (inr (passed, is)) = is

    by_place : (from < to) ⊎ (to ≤ from) → ((rest : List Hit) → HitsBetween es inputs k (from + 1) to rest → HitsBetween es inputs k next to rest) → HitsBetween es inputs k next to hits
    by_place (inl inside) further =
        let line = next_hits es inputs k from to hits inside within h in
        let same : hits ≡ line.rest = line.joined ∙ ap (λ l. l ++ line.rest) (no_hit line.here line.is_here) in
        subst (λ (l : List Hit). HitsBetween es inputs k next to l) (sym same) (further line.rest line.is_rest)
    by_place (inr past) further = subst (λ (l : List Hit). HitsBetween es inputs k next to l) (sym (no_more es inputs k from to hits past h)) (none_after es inputs k next to (omega (arith, e, past)))

module _ (es : List Expression) (inputs : Inputs) (k from to next : ℕ) (low : from ≤ next) (within : to ≤ length (file_at inputs.files k).lines) (none : NoneBetween es inputs k from next) (hits : List Hit) (are : HitsBetween es inputs k from to hits) where
  from_next : HitsBetween es inputs k next to hits
  from_next = passed_to es inputs k to next (next - from) from (omega arith) within none hits are

  -- there is none
  pub none_first : to ≤ next → hits ≡ []
  none_first past = no_more es inputs k next to hits past from_next

  -- there is one, as a session returns it
  pub one_first : {H : Type 0} (text : H → Text) (parts : H → List Span) (found : Option H) (hit : H) → next < to
      → MatchOption found (Selected es inputs.options (get_or (file_at inputs.files k).lines next []) → ⊥)
      (λ h. Selected es inputs.options (get_or (file_at inputs.files k).lines next []) × (text h ≡ get_or (file_at inputs.files k).lines next []) × ListedParts es inputs.options (get_or (file_at inputs.files k).lines next []) (map span_places (parts h)))
      → found ≡ Some hit → IsFirst es inputs k to next (text hit) (map span_places (parts hit)) hits
  one_first text parts found hit inside answers e =
      let line = next_hits es inputs k next to hits inside within from_next in
      let here = one_here es inputs.options text parts next (get_or (file_at inputs.files k).lines next []) found line.here answers line.is_here hit e in
      record { rest = line.rest; are_rest = line.is_rest; joined = line.joined ∙ ap (λ l. l ++ line.rest) here }

-- ---- lines cut at a place

-- the hits before a place, and those from it on
pub record WithParts (es : List Expression) (inputs : Inputs) (k place mid to : ℕ) (hits : List Hit) : Type 0 where
  pub front : List Hit
  pub back : List Hit
  pub is_front : HitsBetween es inputs k place mid front
  pub is_back : HitsBetween es inputs k mid to back
  pub joined : hits ≡ front ++ back

split_from : (es : List Expression) (options : Options) (first next : ℕ) (xs ys : List Text) (hits : List Hit) → next ≡ first + length xs → HitsFrom es options first (xs ++ ys) hits →
    (front : List Hit) × (back : List Hit) × HitsFrom es options first xs front × HitsFrom es options next ys back × (hits ≡ front ++ back)
split_from es options first next [] ys hits e h =
    let same : first ≡ next = omega arith in
    ([], hits, refl, rw same at h, refl)
split_from es options first next (x ∷ xs) ys hits e (front, rest, here, more, joined) =
    let s = split_from es options (first + 1) next xs ys rest (omega arith) more in
    (front ++ s.0, s.1, (front, s.0, here, s.2, refl), s.3, joined ∙ ap (λ l. front ++ l) s.4 ∙ sym (append_assoc front s.0 s.1))

pub with_parts : (es : List Expression) (inputs : Inputs) (k place mid to : ℕ) (hits : List Hit) → place ≤ mid → mid ≤ to → mid ≤ length (file_at inputs.files k).lines → HitsBetween es inputs k place to hits → WithParts es inputs k place mid to hits
with_parts es inputs k place mid to hits low high within h =
    let lines = (file_at inputs.files k).lines in
    let far : to - place ≡ (mid - place) + (to - mid) = omega arith in
    let there : place + (mid - place) ≡ mid = omega arith in
    let cut =
    ap (λ n. take n (drop place lines)) far ∙ take-add (mid - place) (to - mid) (drop place lines) ∙ ap (λ l. take (mid - place) (drop place lines) ++ take (to - mid) l) (cc (drop-drop (mid - place) place lines)) in
    let long = length-take-le (mid - place) (drop place lines) (omega (arith, length-drop place lines)) in
    let s = split_from es inputs.options place mid (slice_range lines place mid) (slice_range lines mid to) hits (omega arith) (rw cut at h) in
    record { front = s.0; back = s.1; is_front = s.2; is_back = s.3; joined = s.4 }
