-- Tokens of extended expressions, by the bytes at their place.
use Rattle.re_syntax.{proofs.{Prelude.{HasOne, ◌≡◌, ◌≢◌, ℕ, ◌+◌, ◌<◌, ◌≤◌, ◌⊎◌, inl, inr, ◌&&◌, Bool, true, false, nat_eq, [], ◌∷◌, ◌++◌, length, drop, Option, Some, None, MatchOption, MatchBool, is_some, IsTrue, slice_get, codes, refl, sym, ap, ◌∙◌, arith, ne_eqb, cases_eq, append_assoc, length-drop, slice_get_within, Counts, Text, Begins, IsAfter, is_in, OpensDuplication, opens_star, opens_plus, opens_question, opens_interval, HasNoInterval, and_right}, lemmas.{BracketsUnique.{heads, tails, apart}, Places.byte_at, TokenParts.no_closed}}, specs.{declared.tokens.ItemPlace.ItemPlace, ExtendedTokens.{Duplication, is_ordinary, star, plus, question, interval, ExtendedToken, closes, period, ordinary, brace}, Working.TokenSteps.byte_token}}

-- Duplications.

pub dup_length : {d : Text} {least : ℕ} {most : Option ℕ} → Duplication d least most → 0 < length d
dup_length star = omega arith
dup_length plus = omega arith
dup_length question = omega arith
dup_length (interval form allowed) = omega arith

-- what opens a duplication is not empty
opens_some : {t : Text} → OpensDuplication t → (b : ℕ) × (w : Text) × (t ≡ b ∷ w)
opens_some (opens_star {u = u}) = (42, u, refl)
opens_some (opens_plus {u = u}) = (43, u, refl)
opens_some (opens_question {u = u}) = (63, u, refl)
opens_some (opens_interval {t = t} c) = (123, t, refl)

-- a duplication opens one
pub dup_opens : {d : Text} {least : ℕ} {most : Option ℕ} → Duplication d least most → (u : Text) → OpensDuplication (d ++ u)
dup_opens star u = opens_star
dup_opens plus u = opens_plus
dup_opens question u = opens_question
dup_opens (interval {t} form allowed) u = opens_interval (record { inside = t; form = form; whole = append_assoc t (codes "}") u })

-- a byte that is a duplication alone
pub sign_stands : {text : Text} {at b : ℕ} {counts : Counts} → slice_get text at ≡ Some b → Duplication (b ∷ []) counts.least counts.most → HasOne Duplication text at counts (at + 1)
sign_stands {text} {at} {b} e d =
    record { within = (let k = slice_get_within text at b e in omega arith); bytes = b ∷ []; duplication = d; front = byte_at text at b e }

-- nothing opens a duplication at the text's end
pub none_at_end : (text : Text) (at : ℕ) → length text ≤ at → ¬ OpensDuplication (drop at text)
none_at_end text at h o = let (b, w, e) = opens_some o in absurd (omega (arith, simp length-drop at (ap length e)))

-- a byte that is neither a duplication alone nor a brace opens none
pub none_without_brace : (text : Text) (at b : ℕ) → slice_get text at ≡ Some b → ¬ IsTrue (is_in (codes "*+?") b) → ¬ Begins (codes "{") (drop at text) → ¬ OpensDuplication (drop at text)
none_without_brace text at b e n k o = go o refl
  where
    sign : (c : ℕ) (u : Text) → c ∷ u ≡ drop at text → is_in (codes "*+?") c ≡ true → ⊥
    sign c u f h = n (rw (heads (f ∙ byte_at text at b e)) at h)

    go : {t : Text} → OpensDuplication t → t ≡ drop at text → ⊥
    go (opens_star {u = u}) f = sign 42 u f refl
    go (opens_plus {u = u}) f = sign 43 u f refl
    go (opens_question {u = u}) f = sign 63 u f refl
    go (opens_interval {t = t} c) f = k (t, sym f)

-- a brace that begins nothing of an interval's form opens none
pub no_opening : {t s : Text} → HasNoInterval (codes "}") t → OpensDuplication s → s ≡ 123 ∷ t → ⊥
no_opening n opens_star e = apart (heads e) refl
no_opening n opens_plus e = apart (heads e) refl
no_opening n opens_question e = apart (heads e) refl
no_opening n (opens_interval c) e = no_closed n c (tails e)

pub none_without_interval : {text : Text} {at inside : ℕ} → IsAfter (codes "{") text at inside → HasNoInterval (codes "}") (drop inside text) → ¬ OpensDuplication (drop at text)
none_without_interval s h o = no_opening h o s.front

-- whether a duplication was found
pub found_opens : (text : Text) (at : ℕ) (found : Option (Counts × ℕ)) {b : Bool} → b ≡ is_some found →
    MatchOption found (¬ OpensDuplication (drop at text)) (λ d. HasOne Duplication text at d.0 d.1) → MatchBool b (OpensDuplication (drop at text)) (¬ OpensDuplication (drop at text))
found_opens text at None e h = rw e h
found_opens text at (Some d) e h = rw (e, h.front) (dup_opens h.duplication _)

-- Single bytes.

-- a byte that is nothing else stands for itself
stands_for_itself : (g : Bool) (b : ℕ) (u : Text) → ¬ OpensDuplication (b ∷ u) → b ≢ 91 → b ≢ 46 → b ≢ 92 → b ≢ 40 → b ≢ 36 → b ≢ 124 → b ≢ 94 → b ≢ 123 → (g && is_in (codes ")") b) ≡ false → IsTrue (is_ordinary g b)
stands_for_itself g b u m k d l o w bar caret x close =
    rw (
      ne_eqb 91 b (λ x. k (sym x)),
      ne_eqb 46 b (λ x. d (sym x)),
      ne_eqb 92 b (λ x. l (sym x)),
      ne_eqb 40 b (λ x. o (sym x)),
      ne_eqb 42 b (sign 42 opens_star),
      ne_eqb 43 b (sign 43 opens_plus),
      ne_eqb 63 b (sign 63 opens_question),
      ne_eqb 124 b (λ x. bar (sym x)),
      ne_eqb 94 b (λ x. caret (sym x)),
      ne_eqb 36 b (λ x. w (sym x)),
      ne_eqb 123 b (λ e. x (sym e)),
      close,
    ) refl
  where
    sign : (c : ℕ) → OpensDuplication (c ∷ u) → c ≢ b
    sign c opens e = m (rw e at opens)

-- the token of a byte that begins no other
pub single : {g : Bool} {p : ItemPlace} (b : ℕ) {u : Text} → ¬ OpensDuplication (b ∷ u) → b ≢ 91 → b ≢ 92 → b ≢ 40 → b ≢ 36 → b ≢ 124 → b ≢ 94 → ExtendedToken g p (b ∷ u) u (byte_token g b)
single {g} {p} b {u} m k l o w bar caret = go g (cases_eq b 41) (cases_eq b 46) (cases_eq b 123)
  where
    plain : (g : Bool) → (g && nat_eq b 41) ≡ false → (g && is_in (codes ")") b) ≡ false → (b ≡ 46) ⊎ (b ≡ 46 → ⊥) → (b ≡ 123) ⊎ (b ≡ 123 → ⊥) → ExtendedToken g p (b ∷ u) u (byte_token g b)
    plain g e f (inl d) s = rw (d, and_right g (nat_eq 46 41) refl) period
    plain g e f (inr n) (inl i) = rw (i, and_right g (nat_eq 123 41) refl) (brace (record { none = λ v least most c. m (rw i (opens_interval c)) }))
    plain g e f (inr n) (inr i) = rw (e, ne_eqb b 46 n) (ordinary b (stands_for_itself g b u m k n l o w bar caret i f))

    go : (g : Bool) → (b ≡ 41) ⊎ (b ≡ 41 → ⊥) → (b ≡ 46) ⊎ (b ≡ 46 → ⊥) → (b ≡ 123) ⊎ (b ≡ 123 → ⊥) → ExtendedToken g p (b ∷ u) u (byte_token g b)
    go true (inl e) d s = rw e (closes refl)
    go true (inr n) d s = plain true (ne_eqb b 41 n) (rw (ne_eqb 41 b (λ x. n (sym x))) refl) d s
    go false c d s = plain _ refl refl d s
