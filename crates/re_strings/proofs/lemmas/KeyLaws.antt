-- Bytes, strings and lines as they are compared.
use Rattle.re_strings.proofs.Prelude.{◌≡◌, ◌↔◌, ℕ, ◌+◌, ◌-◌, ◌<◌, ◌≤◌, ◌⊎◌, inl, inr, Bool, true, false, IsTrue, ◌||◌, List, [], ◌∷◌, length, map, slice_index, nat_eq, refl, sym, ap, ◌∙◌, arith, to_ascii_lowercase, Text, only, range, closed, other_case, lines_of, newline, put_before, key, keys, cases_lt, and_from, and_right, and_left, or_cases, le-leb, lt-leb, lt-ltb, le-ltb, cond-true, cond-false, eqb-true, eq-eqb, ne_eqb, cases_eq, get_or-map}

-- a byte between two is in their range
inside : (low high b : ℕ) → low ≤ b → b ≤ high → range low high b ≡ true
inside low high b from to = and_from _ _ (le-leb low b from) (le-leb b high to)

below : (low high b : ℕ) → b < low → range low high b ≡ false
below low _ b lt = and_left _ _ (lt-leb low b lt)

above : (low high b : ℕ) → high < b → range low high b ≡ false
above _ high b lt = and_right _ _ (lt-leb b high lt)

-- ---- one byte

-- where case counts each byte is compared as it is
pub key_plain : (b : ℕ) → key false b ≡ b
unfolding key
key_plain b = refl

key_upper : (b : ℕ) → 65 ≤ b → b ≤ 90 → key true b ≡ b + 32
unfolding key
key_upper b from to = cond-true _ _ _ (inside 65 90 b from to)

key_below : (b : ℕ) → b < 65 → key true b ≡ b
unfolding key
key_below b lt = cond-false _ _ _ (below 65 90 b lt)

key_above : (b : ℕ) → 90 < b → key true b ≡ b
unfolding key
key_above b lt = cond-false _ _ _ (above 65 90 b lt)

-- an upper-case letter is compared by its lower case, any other byte as it is
key_cases : (b : ℕ) → ((65 ≤ b) × (b ≤ 90) × (key true b ≡ b + 32)) ⊎ (((b < 65) ⊎ (90 < b)) × (key true b ≡ b))
key_cases b =
    elim (cases_lt b 65) [
      | inl early ↦ inr (inl early, key_below b early)
      | inr from ↦ elim (cases_lt 90 b) [ inl late ↦ inr (inr late, key_above b late) | inr to ↦ inl (from, to, key_upper b from to) ]
    ]

-- the other case, by the range of the byte
other_upper : (b : ℕ) → 65 ≤ b → b ≤ 90 → other_case b ≡ b + 32
other_upper b from to = cond-true _ _ _ (inside 65 90 b from to)

other_lower : (b : ℕ) → 97 ≤ b → b ≤ 122 → other_case b ≡ b - 32
other_lower b from to = cond-false _ _ _ (above 65 90 b (omega arith)) ∙ cond-true _ _ _ (inside 97 122 b from to)

other_below : (b : ℕ) → b < 65 → other_case b ≡ b
other_below b lt = cond-false _ _ _ (below 65 90 b lt) ∙ cond-false _ _ _ (below 97 122 b (omega arith))

other_between : (b : ℕ) → 90 < b → b < 97 → other_case b ≡ b
other_between b from to = cond-false _ _ _ (above 65 90 b from) ∙ cond-false _ _ _ (below 97 122 b to)

other_above : (b : ℕ) → 122 < b → other_case b ≡ b
other_above b lt = cond-false _ _ _ (above 65 90 b (omega arith)) ∙ cond-false _ _ _ (above 97 122 b lt)

-- both cases are compared alike
key_other : (b : ℕ) → key true (other_case b) ≡ key true b
key_other b =
    elim (cases_lt b 65) [
      | inl early ↦ rw (other_below b early)
      | inr from ↦ elim (cases_lt 90 b) [
        | inr to ↦ ap (key true) (other_upper b from to) ∙ key_above (b + 32) (omega (arith, from)) ∙ sym (key_upper b from to)
        | inl past ↦ elim (cases_lt b 97) [
          | inl between ↦ rw (other_between b past between)
          | inr low ↦ elim (cases_lt 122 b) [
            | inl late ↦ rw (other_above b late)
            | inr high ↦
                let back : b - 32 + 32 ≡ b = omega arith in
                ap (key true) (other_lower b low high) ∙ key_upper (b - 32) (omega arith) (omega arith) ∙ back ∙ sym (key_above b past)
          ]
        ]
      ]
    ]

-- bytes that are compared alike are the same but for case
same_but_case : (b c : ℕ) → key true c ≡ key true b → (c ≡ b) ⊎ (other_case c ≡ b)
same_but_case b c same =
    elim (key_cases c) [
      | inl (from, to, up) ↦ elim (key_cases b) [
        | inl (low, high, is) ↦ let e : c ≡ b = omega arith in inl e
        | inr (out, is) ↦ inr (other_upper c from to ∙ sym up ∙ same ∙ is)
      ]
      | inr (out, here) ↦ elim (key_cases b) [
        | inl (low, high, is) ↦
            let at = sym here ∙ same ∙ is in
            let back : c - 32 ≡ b = omega arith in
            inr (other_lower c (omega arith) (omega arith) ∙ back)
        | inr (away, is) ↦ inl (sym here ∙ same ∙ is)
      ]
    ]

-- a byte with both its cases has those that are compared alike
pub closed_byte : (b c : ℕ) → IsTrue (closed (only b) c) ↔ IsTrue (only (key true b) (key true c))
closed_byte b c = ((λ h. forward (or_cases (nat_eq c b) (nat_eq (other_case c) b) h)), (λ h. back (same_but_case b c (eqb-true (key true c) (key true b) h))))
  where
    forward : (nat_eq c b ≡ true) ⊎ (nat_eq (other_case c) b ≡ true) → IsTrue (only (key true b) (key true c))
    forward (inl h) = eq-eqb _ _ (rw (eqb-true c b h))
    forward (inr h) = eq-eqb _ _ (cc (key_other c, eqb-true (other_case c) b h))

    back : (c ≡ b) ⊎ (other_case c ≡ b) → IsTrue (closed (only b) c)
    back (inl e) = rw (eq-eqb c b e)
    back (inr e) = either (nat_eq c b) (eq-eqb (other_case c) b e)
      where
        either : (x : Bool) {y : Bool} → y ≡ true → (x || y) ≡ true
        either true e = refl
        either false e = e

-- the lower case of std
pub key_lower : (b : ℕ) → to_ascii_lowercase b ≡ key true b
key_lower b =
    elim (cases_lt b 65) [
      | inl early ↦ cond-true _ _ _ (lt-ltb b 65 early) ∙ sym (key_below b early)
      | inr from ↦ elim (cases_lt b 91) [
        | inl to ↦ cond-false _ _ _ (le-ltb b 65 from) ∙ cond-true _ _ _ (lt-ltb b 91 to) ∙ sym (key_upper b from (omega arith))
        | inr late ↦ cond-false _ _ _ (le-ltb b 65 from) ∙ cond-false _ _ _ (le-ltb b 91 late) ∙ sym (key_above b (omega arith))
      ]
    ]

-- a newline is no letter
pub key_newline : (fold : Bool) (b : ℕ) → nat_eq (key fold b) newline ≡ nat_eq b newline
key_newline false b = rw (key_plain b)
key_newline true b =
    elim (key_cases b) [
      | inl (from, to, up) ↦ ne_eqb _ _ (λ e. omega arith) ∙ sym (ne_eqb _ _ (λ e. omega arith))
      | inr (out, same) ↦ rw same
    ]

-- ---- texts

pub keys_plain : (t : Text) → keys false t ≡ t
keys_plain [] = refl
keys_plain (b ∷ t) = cc (key_plain b, keys_plain t)

all_plain : (texts : List Text) → map (keys false) texts ≡ texts
all_plain [] = refl
all_plain (t ∷ texts) = ap (λ x. x ∷ map (keys false) texts) (keys_plain t) ∙ ap (λ s. t ∷ s) (all_plain texts)

keys_lower : (t : Text) → map to_ascii_lowercase t ≡ keys true t
keys_lower [] = refl
keys_lower (b ∷ t) = cc (key_lower b, keys_lower t)

-- the byte at a place
pub key_at : (fold : Bool) (line : Text) (k : ℕ) → k < length line → slice_index (keys fold line) k ≡ key fold (slice_index line k)
key_at fold line k lt = get_or-map (key fold) line k 0 0 lt

put_keys : (fold : Bool) (b : ℕ) (ts : List Text) → put_before (key fold b) (map (keys fold) ts) ≡ map (keys fold) (put_before b ts)
put_keys _ b [] = refl
put_keys _ b (t ∷ ts) = refl

-- lines are compared as the lines of what is compared
pub lines_of-keys : (fold : Bool) (t : Text) → lines_of (keys fold t) ≡ map (keys fold) (lines_of t)
unfolding lines_of
lines_of-keys _ [] = refl
lines_of-keys fold (b ∷ t) =
    let rest = lines_of-keys fold t in
    elim (cases_eq b newline) [
      | inl is ↦
          let own = eq-eqb b newline is in
          cond-true _ _ _ (key_newline fold b ∙ own) ∙ ap (λ ts. [] ∷ ts) rest ∙ sym (ap (map (keys fold)) (cond-true _ _ _ own))
      | inr not ↦
          let own = ne_eqb b newline not in
          cond-false _ _ _ (key_newline fold b ∙ own) ∙ ap (put_before (key fold b)) rest ∙ put_keys fold b (lines_of t) ∙ sym (ap (map (keys fold)) (cond-false _ _ _ own))
    ]

pub lines_lowered : (t lowered : Text) → lowered ≡ map to_ascii_lowercase t → lines_of lowered ≡ map (keys true) (lines_of t)
lines_lowered t lowered is = cc (is ∙ keys_lower t, lines_of-keys true t)

pub lines_plain : (t : Text) → lines_of t ≡ map (keys false) (lines_of t)
lines_plain t = sym (all_plain _)
