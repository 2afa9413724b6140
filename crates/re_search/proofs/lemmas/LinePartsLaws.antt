-- The search for the parts of one line: the ends of its parts, and the steps.
use Rattle.{re_search.proofs.Prelude.{◌≡◌, ℕ, zero, suc, ◌+◌, ◌-◌, ◌*◌, ◌<◌, ◌≤◌, ◌⊎◌, ◌∙◌, ap, replicate, length-replicate, get_or-replicate, inl, inr, Bool, List, [], ◌∷◌, ◌++◌, length, max, take, get_or, sym, subst, arith, ◌↔◌, slice_index, mul-le-mul_left, Text, Expression, IsFound, IsPart, FoundPast, AddsEnds, Sought, LineEnds, AreAllEnds, AreEnds, AreEndsIn, ArePartsOf, AddsUpTo, spent, FindsBefore, FindsPart, Span, Option, Some, None, IfSome, In, IsAhead, Window, false, true, past, cases_lt, dec_le, get_or_past}, re_meter.{specs.Meters.{Steps, AddsAtMost}, proofs.lemmas.Adding.adds_within}, re_match.proofs.lemmas.{StepSums.adds_on, WindowLaws.{border_within, from_place, over_border}}, re_ends.proofs.lemmas.FoundEnds.both_past}

-- ---- parts

-- where none begins before a place, nor from there on up to another
pub none_later : (es : List Expression) (line : Text) (whole : Bool) (from at : ℕ) → ((i j : ℕ) → IsFound es line whole from i j → at ≤ i) → (seen n top : ℕ) → ((i j : ℕ) → IsFound es line whole at i j → seen ≤ i) → n ≡ seen → top ≡ max at n → (i j : ℕ) → IsFound es line whole from i j → top ≤ i
none_later es line whole from at later seen n top none is high i j f = omega (arith, is, high, later i j f, none i j (from_place es line whole from at i j (later i j f) f))

-- ---- ends of parts

module _ (sought : Sought) (line : Text) (ends : List ℕ) (first from seen : ℕ) (are : AreEnds sought line from seen first ends) where
  -- where a part begins there is an end
  in_list : (i j : ℕ) → i < seen → IsFound sought.expressions line sought.whole from i j → (first ≤ i) × (j ≤ get_or ends (i - first) 0)
  in_list i j lt f =
      let (low, past) = (are i (j - 1) f.begins lt).1 (j, omega (arith, f.not_empty), from_place sought.expressions line sought.whole from 0 i j (omega arith) f) in
      (low, omega (arith, past, f.not_empty))

  -- no part begins before the first place that is looked at
  pub none_first : first ≤ seen → (i j : ℕ) → IsFound sought.expressions line sought.whole from i j → first + (from - first) ≤ i
  none_first le i j f = elim (dec_le first i) [
    | yes h ↦ omega (arith, h, f.begins)
    | no h ↦ absurd (let there = in_list i j (omega (arith, h, le)) f in h there.0)
  ]

  -- nor after the window
  pub none_last : (place : ℕ) → length ends ≤ place → ((i j : ℕ) → IsFound sought.expressions line sought.whole from i j → first + place ≤ i) → (i j : ℕ) → IsFound sought.expressions line sought.whole from i j → seen ≤ i
  none_last place long later i j f = elim (dec_le seen i) [
    | yes h ↦ h
    | no h ↦ absurd (let there = in_list i j (omega (arith, h)) f in omega (arith, there.1, get_or_past ends (i - first) 0 (omega (arith, long, later i j f)), f.not_empty))
  ]

  module _ (place : ℕ) (low : from ≤ first + place) (lt : first + place < seen) (later : (i j : ℕ) → IsFound sought.expressions line sought.whole from i j → first + place ≤ i) where
    at_most : (l : ℕ) → IsFound sought.expressions line sought.whole from (first + place) l → l ≤ get_or ends place 0
    at_most l f = let same : first + place - first ≡ place = omega arith in subst (λ k. l ≤ get_or ends k 0) same (in_list (first + place) l lt f).1

    -- a place without an end begins no part
    pub passed_on : get_or ends place 0 ≡ 0 → (i j : ℕ) → IsFound sought.expressions line sought.whole from i j → first + (place + 1) ≤ i
    passed_on none i j f = elim (cases_lt (first + place) i) [
      | inl past ↦ omega (arith, past)
      | inr ge ↦
          let here : i ≡ first + place = omega (arith, ge, later i j f) in
          let g = subst (λ k. IsFound sought.expressions line sought.whole from k j) here f in
          absurd (omega (arith, at_most j g, none, g.not_empty))
    ]

    -- the first place that has an end begins the next part
    pub first_from : 0 < get_or ends place 0 → IsPart sought.expressions line sought.whole from (first + place) (get_or ends place 0)
    first_from some =
        let same : place ≡ first + place - first = omega arith in
        let (j, past, f) = (are (first + place) (get_or ends place 0 - 1) low lt).0 (omega arith, subst (λ k. get_or ends place 0 - 1 < get_or ends k 0) same (omega (arith, some))) in
        let found = from_place sought.expressions line sought.whole 0 from (first + place) j low f in
        let there : j ≡ get_or ends place 0 = omega (arith, past, at_most j found, some) in
        record { found = subst (IsFound sought.expressions line sought.whole from (first + place)) there found; earliest = later; longest = at_most }

-- what is known from a place on is known from a later one on
pub parts_after : (sought : Sought) (line : Text) (from to : ℕ) (parts : LineEnds) → from ≤ to → ArePartsOf sought line from parts → ArePartsOf sought line to parts
parts_after sought line from to parts le are = record { on_line = are.on_line; at_once = are.at_once; are_ends = λ i m ge. are.are_ends i m (omega (arith, le, ge)) }

-- what is known of the whole line
pub known_of_all : (sought : Sought) (line : Text) (from seen : ℕ) (found : Option Span) → seen ≡ length line → FindsBefore sought line from seen found → FindsPart sought.expressions line sought.whole from found
known_of_all sought line from seen None all none = λ i j f. omega (arith, all, none i j f, f.not_empty, f.on_line)
known_of_all sought line from seen (Some part) all is = is

pub known_after : (sought : Sought) (line : Text) (from : ℕ) (parts : LineEnds) (found : Option Span) → ArePartsOf sought line from parts → FindsBefore sought line from parts.seen found → IfSome found (λ part. ArePartsOf sought line part.end parts)
known_after sought line from parts None are none = tt
known_after sought line from parts (Some part) are is = parts_after sought line from part.end parts (omega (arith, is.found.begins, is.found.not_empty)) are

-- where all that was looked at is passed
pub passed_right : (sought : Sought) (line : Text) (from seen room : ℕ) → (length sought.expressions ≡ 1) ⊎ (seen ≡ 0) ⊎ (seen ≡ length line) → seen ≤ length line → seen ≤ from → ArePartsOf sought line from (record { room = room; seen = seen; first = 0; ends = [] })
passed_right sought line from seen room once on le = record { on_line = on; at_once = once; are_ends = λ i m ge lt. absurd (omega (arith, ge, lt, le)) }

-- the ends of no matcher
pub no_ends : (line : Text) (ends : List ℕ) → ((i : ℕ) → i < length line → get_or ends i 0 ≡ 0) → AreAllEnds (record { expressions = []; whole = false }) line ends
no_ends line ends zeros i m lt = (λ h. absurd (omega (arith, h, zeros i lt)), λ (j, past, f). absurd (omega (arith, f.holds.2)))

-- and those of one more
pub ends_more : (es : List Expression) (line : Text) (n : ℕ) (e : Expression) (old new : List ℕ) → length old ≡ length line → take (n + 1) es ≡ take n es ++ e ∷ [] →
    AreAllEnds (record { expressions = take n es; whole = false }) line old → AddsEnds (λ i m. FoundPast (e ∷ []) line false (0 + i) m) old old new → AreAllEnds (record { expressions = take (n + 1) es; whole = false }) line new
ends_more es line n e old new long next are adds =
    subst (λ fs. AreAllEnds (record { expressions = fs; whole = false }) line new) (sym next) (λ i m lt.
    let both = both_past (take n es) (e ∷ []) line false i m in
    let same : 0 + i ≡ i = omega arith in
    let at = adds.1 i m (omega (arith, lt, long)) in (
      λ h. both.0 (elim (at.0 h) [ inl had ↦ inl ((are i m lt).0 had) | inr p ↦ inr (subst (λ k. FoundPast (e ∷ []) line false k m) same p) ]),
      λ f. at.1 (elim (both.1 f) [ inl p ↦ inl ((are i m lt).1 p) | inr p ↦ inr (subst (λ k. FoundPast (e ∷ []) line false k m) (sym same) p) ]),
    ))

-- what several matchers know of the whole line
pub all_known : (sought : Sought) (line : Text) (from first : ℕ) (ends : List ℕ) → first ≡ 0 → AreAllEnds sought line ends → AreEnds sought line from (length line) first ends
all_known sought line from first ends is are i m ge lt =
    let same : i - first ≡ i = omega (arith, is) in (
      λ p. (are i m lt).0 (subst (λ k. m < get_or ends k 0) same p.1),
      λ f. (omega (arith, is), subst (λ k. m < get_or ends k 0) (sym same) ((are i m lt).1 f)),
    )

-- ends that are added to zeros
pub zeros_added : (P : ℕ → ℕ → Type 0) (old new : List ℕ) (n : ℕ) → old ≡ replicate n 0 → AddsEnds P old old new → (length new ≡ n) × ((i m : ℕ) → i < n → (m < slice_index new i) ↔ P i m)
zeros_added P old new n zeros added =
    let long : length old ≡ n = ap length zeros ∙ length-replicate n 0 in (
      added.0 ∙ long,
      λ i m lt.
          let none : get_or old i 0 ≡ 0 = ap (λ l. get_or l i 0) zeros ∙ get_or-replicate n i 0 0 lt in
          let at = added.1 i m (omega (arith, long, lt)) in (
            λ h. elim (at.0 h) [ inl o ↦ absurd (omega (arith, o, none)) | inr p ↦ p ],
            λ p. at.1 (inr p),
          ),
    )

-- ---- windows

module _ (e : Expression) (line : Text) (from : ℕ) (window : Window) (within : from < length line) (is : IsAhead e line from (In window)) where
  -- a window ends on the line, after the place from which on it was looked for
  pub window_ends : (window.end ≤ length line) × (from < past line window.end) × (past line window.end ≤ length line)
  window_ends =
      let on = border_within e line window.end is.1.1 in
      (on, omega (arith, within, is.0.0, is.1.0), omega arith)

  -- the ends of its places are all up to the place after it
  pub window_known : (parts : LineEnds) → parts.seen ≡ past line window.end → AreEndsIn (record { expressions = e ∷ []; whole = false }) line window.start window.end parts → AreEnds (record { expressions = e ∷ []; whole = false }) line from parts.seen parts.first parts.ends
  window_known parts seen are i m ge lt = elim (cases_lt i window.start) [
    | inl before ↦ (
      λ p. absurd (let low = p.0 in let first = are.first in omega (arith, before, low, first)),
      λ (j, past, f). absurd (let late = is.0.1 i j (from_place (e ∷ []) line false 0 from i j ge f) in omega (arith, late, before)),
    )
    | inr after ↦ elim (cases_lt i window.end) [
      | inl inside ↦
          let place : i - parts.first ≡ i - window.start = let first = are.first in omega (arith, first) in
          let back : window.start + (i - window.start) ≡ i = omega (arith, after) in
          let at = are.are_ends (i - window.start) m (omega (arith, inside, after)) in (
            λ p. subst (λ k. FoundPast (e ∷ []) line false k m) back (at.0 (subst (λ k. m < get_or parts.ends k 0) place p.1)),
            λ f. (let first = are.first in omega (arith, first, after), subst (λ k. m < get_or parts.ends k 0) (sym place) (at.1 (subst (λ k. FoundPast (e ∷ []) line false k m) (sym back) f))),
          )
      | inr beyond ↦ (
        λ p. absurd (let first = are.first in let long = are.long in let none = get_or_past parts.ends (i - parts.first) 0 (omega (arith, first, long, beyond)) in omega (arith, p.1, none)),
        λ (j, past, f). absurd (
            let over = over_border e line 0 window.end i j is.1.1 f (omega (arith, lt, seen)) in
            omega (arith, over, f.not_empty, beyond)),
      )
    ]
  ]

-- its steps are those of its bytes
spent_more : (seen from to : ℕ) → seen ≤ from → from < to → spent seen + (to - from) ≤ spent to
spent_more seen from zero le lt = absurd (omega (arith, lt))
spent_more zero from (suc to) le lt = omega arith
spent_more (suc seen) from (suc to) le lt = omega (arith, le, lt)

pub stretch_steps : (seen from to : ℕ) (first old new : Steps) → seen ≤ from → from < to → AddsAtMost (spent seen) first old → AddsAtMost (to - from) old new → AddsAtMost (spent to) first new
stretch_steps seen from to first old new le lt before next =
    let few = spent_more seen from to le lt in
    adds_on before next few few

-- all parts of a line take no more than one search of it
few_spent : (seen long : ℕ) → seen ≤ long → spent seen ≤ long + 1
few_spent zero long le = omega arith
few_spent (suc seen) long le = omega (arith, le)

pub all_parts : (count seen long : ℕ) (first now : Steps) → seen ≤ long → AddsAtMost (count * spent seen) first now → AddsAtMost (count * (long + 1)) first now
all_parts count seen long first now le few =
    let most = mul-le-mul_left count (few_spent seen long le) in
    adds_within (count * spent seen) (count * (long + 1)) (count * spent seen) (count * (long + 1)) first now most most few

-- the steps of a window and of the search for it
pub window_steps : (seen from start end to : ℕ) (first old mid new : Steps) → seen ≤ from → from < to → from ≤ start → start ≤ end → end ≤ to
    → AddsAtMost (spent seen) first old → AddsUpTo (start - from) (to - from) old mid → AddsUpTo (end - start) 0 mid new → AddsAtMost (spent to) first new
window_steps seen from start end to first old mid new le lt low order high before look more =
    stretch_steps seen from to first old new le lt before
    (adds_on look more (omega (arith, low, order, high)) (omega arith))

-- ---- whole lines

-- where something was looked at all is known
pub known_whole : (es : List Expression) (line : Text) (from seen : ℕ) (found : Option Span) → 0 < seen → FindsBefore (record { expressions = es; whole = true }) line from seen found → FindsPart es line true from found
known_whole es line from seen None some none = λ i j f. omega (arith, some, none i j f, f.is_whole.0)
known_whole es line from seen (Some part) some is = is
