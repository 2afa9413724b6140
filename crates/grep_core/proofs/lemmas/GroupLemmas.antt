-- The groups of lines around selected ones, as a file has one more line, and what is written of
-- them.
use Rattle.grep_core.proofs.{Prelude.{AreUnselected, ◌≡◌, ℕ, ◌+◌, ◌<◌, ◌≤◌, ◌⊎◌, Bool, true, false, ◌&&◌, IsTrue, Decides, List, [], ◌∷◌, ◌++◌, length, inl, inr, refl, sym, ap, ◌∙◌, append_assoc, arith, if◌then◌else◌, enumerate_from, Text, Expression, Context, Options, hyphen, IfHolds, EachGives, Selected, group_separator, IsShown, BeginsGroup, IsRow, Shows, around, shown_number, name_shown, rows_after, row_with, rows_around, false≢true, length-append, All-head, All-tail}, lemmas.{ChooseLaws.{EachGives-one, EachGives-append}, MoreLines.enumerate_from-append, ShownLemmas.{EachGives-placed, shown_more, begins_at, begins_same, shows_same}}}

-- a group that begins is after a separator where something was written before
pub after_group : (context : Context) (before gap shown : Bool) (groups rest : List Text) → Decides shown (IsTrue before ⊎ (groups ≡ [] → ⊥)) → (groups ≡ [] → gap ≡ true)
    → rows_after (around context) before groups ++ ((if gap && shown then group_separator ∷ [] else []) ++ rest) ≡ rows_after (around context) before (groups ++ ((if gap then group_separator ∷ [] else []) ++ rest))
after_group _ true true true _ _ _ _ = refl
after_group _ true false true _ _ _ _ = refl
after_group _ true _ false _ _ reported _ = absurd (false≢true (reported.1 (inl refl)))
after_group _ false _ true [] _ reported _ = elim (reported.0 refl) [ inl b ↦ absurd (false≢true b) | inr n ↦ absurd (n refl) ]
after_group _ false true false [] _ _ _ = refl
after_group _ false false false [] _ _ first = absurd (false≢true (first refl))
after_group _ false true true (g ∷ gs) _ _ _ = refl
after_group _ false false true (g ∷ gs) _ _ _ = refl
after_group context false gap false (g ∷ gs) rest reported first = absurd (false≢true (reported.1 (inr (λ e. omega (arith, ap length e)))))

-- the verdict on whether something was shown before, where there is no group yet
pub said_before : (before : Bool) → Decides before (IsTrue before ⊎ (◌≡◌ {A = List Text} [] [] → ⊥))
said_before _ = ((λ t. inl t), (λ h. elim h [ inl t ↦ t | inr n ↦ absurd (n refl) ]))

-- two lists, the second of which is not empty
pub more_nonempty : (xs ys zs : List Text) (y : Text) → xs ++ (ys ++ (zs ++ y ∷ [])) ≡ [] → ⊥
more_nonempty xs ys zs y e =
    let bad : ⊥ = omega (arith, ap length e, length-append xs (ys ++ (zs ++ y ∷ [])), length-append ys (zs ++ y ∷ []), length-append zs (y ∷ [])) in
    bad

module _ (es : List Expression) (options : Options) (many : Bool) (name : Text) (context : Context) where
  -- what is shown of a numbered line
  abbrev pub Given : List Text → ℕ × Text → List Text → Type 0
  Given lines line out = Shows es options context (name_shown many name) (shown_number options (line.0 + 1)) lines line.0 line.1 out

  -- the lines before one that is shown are shown with it: they are not selected, and the first of
  -- them begins a group or does not
  group_held : (lines held : List Text) (f : ℕ) (line row : Text) (separator : List Text) → AreUnselected es options held
      → ((k : ℕ) → f ≤ k → k ≤ f + length held → IsShown es options context lines k) → IfHolds (BeginsGroup es options context lines f) (separator ≡ group_separator ∷ []) (separator ≡ [])
      → IsRow es options context (name_shown many name) (shown_number options ((f + length held) + 1)) line row
      → EachGives (Given lines) (enumerate_from f (held ++ line ∷ [])) (separator ++ (rows_around options many name (f + 1) held ++ row ∷ []))
  group_held lines [] f line row separator none shown begins is_row =
      let same : f + 0 ≡ f = omega arith in
      EachGives-one (Given lines) _ _ (inl (
        shown f (omega arith) (omega arith),
        (
          row,
          rw same at is_row,
          elim begins [ inl b ↦ inl (b.0, ap (λ s. s ++ row ∷ []) b.1) | inr b ↦ inr (b.0, ap (λ s. s ++ row ∷ []) b.1) ],
        ),
      ))
  group_held lines (l ∷ held) f line row separator none shown begins is_row =
      let first = row_with options many name hyphen (f + 1) l in
      let rest = rows_around options many name ((f + 1) + 1) held ++ row ∷ [] in
      let shown_first = shown f (omega arith) (omega arith) in
      let numbered : f + length (l ∷ held) ≡ (f + 1) + length held = omega arith in (
        separator ++ first ∷ [],
        rest,
        inl (
          shown_first,
          (
            first,
            inr (All-head (λ l. ¬ Selected es options l) l held none, refl),
            elim begins [ inl b ↦ inl (b.0, ap (λ s. s ++ first ∷ []) b.1) | inr b ↦ inr (b.0, ap (λ s. s ++ first ∷ []) b.1) ],
          ),
        ),
        group_held lines held (f + 1) line row [] (All-tail (λ l. ¬ Selected es options l) l held none)
            (λ k low high. shown k (omega (arith, low)) (omega (arith, high)))
            (inr ((λ b. begins_at es options context lines (f + 1) f b refl shown_first), refl))
            (rw numbered at is_row),
        sym (append_assoc separator (first ∷ []) rest),
      )

  -- what is written of lines with one more, which is shown and those before it from some place on
  pub groups_grown : {lines : List Text} (front held : List Text) (line row : Text) (groups : List Text) {gap : Bool} → lines ≡ front ++ held → AreUnselected es options held
      → EachGives (Given lines) (enumerate_from 0 front) groups
      → ((k : ℕ) → k < length front → IsShown es options context (lines ++ line ∷ []) k → IsShown es options context lines k)
      → ((k : ℕ) → length front ≤ k → k ≤ length lines → IsShown es options context (lines ++ line ∷ []) k)
      → Decides gap (BeginsGroup es options context lines (length front))
      → IsRow es options context (name_shown many name) (shown_number options (length lines + 1)) line row
      → EachGives (Given (lines ++ line ∷ [])) (enumerate_from 0 (lines ++ line ∷ [])) (groups ++ ((if gap then group_separator ∷ [] else []) ++ (rows_around options many name (length front + 1) held ++ row ∷ [])))
  groups_grown {lines} front held line row groups {gap} with_parts none given same shown begins is_row =
      let more : List Text = (if gap then group_separator ∷ [] else []) ++ (rows_around options many name (length front + 1) held ++ row ∷ []) in
      let all = lines ++ line ∷ [] in
      let long = ap length with_parts ∙ length-append front held in
      let stays = λ (k : ℕ). shown_more es options context lines (line ∷ []) k in
      let first = EachGives-placed (Given lines) (Given all) 0 front groups
      (λ k x zs low high. shows_same es options context (name_shown many name) (shown_number options) lines all k x zs (λ j _. stays j) (λ j below. same j (omega (arith, below, high)))) given in
      let rest = group_held all held (length front) line row (if gap then group_separator ∷ [] else []) none (λ k low high. shown k low (omega (arith, high, long)))
      (separated gap begins (begins_same es options context lines all (length front) same) (begins_same es options context all lines (length front) (λ j _. stays j)))
      (rw long at is_row) in
      rw (placed long)
      (EachGives-append (Given all) (enumerate_from 0 front) (enumerate_from (length front) (held ++ line ∷ [])) groups more first rest)
    where
      separated : (b : Bool) {P Q : Type 0} → Decides b P → (P → Q) → (Q → P) → IfHolds Q (◌≡◌ {A = List Text} (if b then group_separator ∷ [] else []) (group_separator ∷ [])) (◌≡◌ {A = List Text} (if b then group_separator ∷ [] else []) [])
      separated true d to from = inl (to (d.0 refl), refl)
      separated false d to from = inr ((λ q. false≢true (d.1 (from q))), refl)

      placed : length lines ≡ length front + length held → enumerate_from 0 (lines ++ line ∷ []) ≡ enumerate_from 0 front ++ enumerate_from (length front) (held ++ line ∷ [])
      placed long =
          let zeroed : 0 + length front ≡ length front = omega arith in
          ap (λ ls. enumerate_from 0 (ls ++ line ∷ [])) with_parts ∙ ap (enumerate_from 0) (append_assoc front held (line ∷ [])) ∙ enumerate_from-append 0 front (held ++ line ∷ [])
          ∙ ap (λ n. enumerate_from 0 front ++ enumerate_from n (held ++ line ∷ [])) zeroed
