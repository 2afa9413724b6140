-- The lines around selected ones: which are shown is decided, a file has one output of them, and
-- none exactly where no line is selected.
use Rattle.{grep_core.proofs.{Prelude.{◌≡◌, ℕ, zero, suc, ◌+◌, ◌<◌, ◌≤◌, List, [], ◌∷◌, ◌++◌, length, get_or, Option, Any, inl, inr, refl, sym, ap, ◌∙◌, arith, enumerate_from, Text, Expression, Context, Options, EachGives, Selected, group_separator, IsShown, BeginsGroup, IsRow, Shows, Groups, dec_le, map_dec}, lemmas.{ChooseLaws.{same_value, IfHolds-both, IfHolds-exist, EachGives-determined, EachGives-exist, EachGives-nothing}, Decided.dec_selected}}, re_syntax.proofs.lemmas.Decisions.{dec_not, dec_both, dec_below, Any-none, Any-first, Any-later, Any-cases}}

-- ---- places in a list

-- what holds of the element at a place holds of some element
any_at : {A : Type 0} (P : A → Type 0) (xs : List A) (k : ℕ) (d : A) → k < length xs → P (get_or xs k d) → Any P xs
any_at P [] k d inside p = absurd (omega (arith, inside))
any_at P (x ∷ xs) zero d _ p = Any-first P x xs p
any_at P (x ∷ xs) (suc k) d inside p = Any-later P x xs (any_at P xs k d (omega (arith, inside)) p)

-- and what holds of some element holds of one at a place
place_of : {A : Type 0} (P : A → Type 0) (xs : List A) (d : A) → Any P xs → (k : ℕ) × (k < length xs) × P (get_or xs k d)
place_of P [] d some = absurd (Any-none P some)
place_of P (x ∷ xs) d some =
    elim (Any-cases P x xs some) [
      | inl first ↦ (0, omega arith, first)
      | inr later ↦ (let at = place_of P xs d later in (suc at.0, omega (arith, at.1), at.2))
    ]

-- where two lists joined are empty, both are
pub first_empty : {A : Type 0} (xs ys : List A) → xs ++ ys ≡ [] → xs ≡ []
first_empty [] _ e = refl
first_empty (x ∷ xs) ys e = absurd (cc)

pub second_empty : {A : Type 0} (xs ys : List A) → xs ++ ys ≡ [] → ys ≡ []
second_empty [] _ e = e
second_empty (x ∷ xs) ys e = absurd (cc)

-- where all elements together give nothing, each of them gives nothing
nothing_at : (R : ℕ × Text → List Text → Type 0) (n : ℕ) (text : List Text) (k : ℕ) (out : List Text) → k < length text → EachGives R (enumerate_from n text) out → out ≡ [] → R (n + k, get_or text k []) []
nothing_at R n [] k out inside h none = absurd (omega (arith, inside))
nothing_at R n (line ∷ text) zero out inside h none =
    let here : n ≡ n + 0 = omega arith in
    let nothing = first_empty h.0 h.1 (sym h.4 ∙ none) in
    rw here at (rw nothing at h.2)
nothing_at R n (line ∷ text) (suc k) out inside h none =
    let later : (n + 1) + k ≡ n + suc k = omega arith in
    rw later at (nothing_at R (n + 1) text k h.1 (omega (arith, inside)) h.3 (second_empty h.0 h.1 (sym h.4 ∙ none)))

module _ (es : List Expression) (options : Options) (context : Context) where
  -- ---- what is shown is decided

  -- whether the line at a place is shown is decided
  pub dec_shown : (text : List Text) (k : ℕ) → Dec (IsShown es options context text k)
  dec_shown text k =
      map_dec (λ h. record { place = h.0; on = h.1; selected = h.2.0; before = h.2.1.0; after = h.2.1.1 }) (λ s. (s.place, s.on, (s.selected, (s.before, s.after))))
      (dec_below Near (λ place. dec_both (dec_selected es options (get_or text place [])) (dec_both (dec_le place (k + context.before)) (dec_le k (place + context.after)))) (length text))
    where
      Near : ℕ → Type 0
      Near place = Selected es options (get_or text place []) × ((place ≤ k + context.before) × (k ≤ place + context.after))

  -- whether a group begins at a place is decided
  dec_begins : (text : List Text) (k : ℕ) → Dec (BeginsGroup es options context text k)
  dec_begins _ zero = yes tt
  dec_begins text (suc k) = dec_not (dec_shown text k)

  module _ (name : Option Text) where
    -- ---- a file has one output

    -- a line has its row
    IsRow-exist : (number : Option ℕ) (line : Text) → (row : Text) × IsRow es options context name number line row
    IsRow-exist _ line = IfHolds-exist _ _ (dec_selected es options line)

    -- what is shown of a line at a place
    pub Shows-exist : (number : Option ℕ) (text : List Text) (k : ℕ) (line : Text) → (out : List Text) × Shows es options context name number text k line out
    Shows-exist number text k line = by_place (dec_shown text k) (dec_begins text k) (IsRow-exist _ _)
      where
        by_place : Dec (IsShown es options context text k) → Dec (BeginsGroup es options context text k) → (row : Text) × IsRow es options context name number line row → (out : List Text) × Shows es options context name number text k line out
        by_place (yes shown) (yes begins) row = (group_separator ∷ row.0 ∷ [], inl (shown, (row.0, row.1, inl (begins, refl))))
        by_place (yes shown) (no goes_on) row = (row.0 ∷ [], inl (shown, (row.0, row.1, inr (goes_on, refl))))
        by_place (no hidden) begins row = ([], inr (hidden, refl))

    -- and nothing else is
    Shows-determined : (number : Option ℕ) (text : List Text) (k : ℕ) (line : Text) (out more : List Text) → Shows es options context name number text k line out → Shows es options context name number text k line more → out ≡ more
    Shows-determined _ _ k _ _ _ a b =
        IfHolds-both a b
        (λ p q. (let same = IfHolds-both p.1 q.1 same_value same_value in
        IfHolds-both p.2 q.2 (λ c d. c ∙ ap (λ (row : Text). group_separator ∷ row ∷ []) same ∙ sym d) (λ c d. c ∙ ap (λ (row : Text). row ∷ []) same ∙ sym d)))
        same_value

    module _ (shown_number : ℕ → Option ℕ) where
      -- the lines of a file have their groups
      pub Groups-exist : (text : List Text) → (groups : List Text) × Groups es options context name shown_number text groups
      Groups-exist text = EachGives-exist _ (λ line. Shows-exist (shown_number (line.0 + 1)) text line.0 line.1) (enumerate_from 0 text)

      -- in one way
      pub Groups-determined : (text groups more : List Text) → Groups es options context name shown_number text groups → Groups es options context name shown_number text more → groups ≡ more
      Groups-determined text _ _ a b = EachGives-determined _ (λ line. Shows-determined (shown_number (line.0 + 1)) text line.0 line.1) _ _ _ a b

      -- ---- there are none exactly where no line is selected

      -- no line is shown where none is selected
      pub groups_none : (text groups : List Text) → Groups es options context name shown_number text groups → (Any (Selected es options) text → ⊥) → groups ≡ []
      groups_none text _ h none =
          EachGives-nothing _
          (λ line out shows. elim shows [
            | inl shown ↦ (let s : IsShown es options context text line.0 = shown.0 in absurd (none (any_at (Selected es options) _ _ [] s.on s.selected)))
            | inr hidden ↦ hidden.1
          ])
          _ _ h

      -- a selected line is shown
      pub groups_some : {groups : List Text} (text : List Text) → Groups es options context name shown_number text groups → Any (Selected es options) text → groups ≡ [] → ⊥
      groups_some {groups} text h some nothing =
          let at = place_of (Selected es options) text [] some in
          let first : 0 + at.0 ≡ at.0 = omega arith in
          let here =
          rw first at (nothing_at _ 0 text at.0 groups at.1 h nothing) in
          elim here [
            | inl shown ↦ elim shown.1.2 [
              | inl begins ↦ absurd (some_row begins.1)
              | inr goes_on ↦ absurd (some_row goes_on.1)
            ]
            | inr hidden ↦ absurd (hidden.0 (record { place = at.0; on = at.1; selected = at.2; before = omega arith; after = omega arith }))
          ]
        where
          some_row : {row : Text} {rows : List Text} → ◌≡◌ {A = List Text} [] (row ∷ rows) → ⊥
          some_row e = cc
