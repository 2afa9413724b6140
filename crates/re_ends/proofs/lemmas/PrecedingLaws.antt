-- Words of sets, and what comes right before their members.
use Rattle.{re_ends.proofs.Prelude.{◌≡◌, ℕ, ◌/◌, ◌%◌, ◌<◌, List, zero, suc, length, get_or, ◌⊎◌, inl, inr, ◌↔◌, sym, ap, ◌∙◌, arith, cases_eq, cases_lt, get_or-set_other, get_or-set_same, set, ◌+◌, ◌*◌, ◌^◌, bit_at_or, bit_at-lt, bit_at-zero, bit_or, bit_at, WordRange, Has, Covers}, std.{specs.{Prelude.bit_and, Int.{bit_not, w64}}, proofs.lemmas.Nat.{and_le_l, Bits.{bit_at_above, bit_at_and, bit_at_lowest, bit_at_not, bit_at_set_other, bit_at_set_same, bit_at-suc}}}, re_auto.proofs.lemmas.BitLemmas.{at_word, one_of_max}}

-- the members of a word are added to one of the set's
pub word_added : (xs : List ℕ) (k word : ℕ) → k < length xs → (q : ℕ) → Has (set xs k (bit_or (get_or xs k 0) word)) q ↔ (Has xs q ⊎ ((q / 64 ≡ k) × (bit_at word (q % 64) ≡ 1)))
unfolding Has
word_added xs k word room q = elim (cases_eq (q / 64) k) [
  | inl same ↦
      let at =
      ap (λ x. bit_at x (q % 64)) (rw same (get_or-set_same xs k _ 0 room)) ∙ bit_at_or _ word (q % 64) in (
        (λ h. elim (one_of_max _ _ (bit_at-lt _ (q % 64)) (bit_at-lt word (q % 64)) (sym at ∙ h)) [ inl old ↦ inl old | inr new ↦ inr (same, new) ]),
        (λ h. elim h [ inl old ↦ omega (arith, at, old, bit_at-lt word (q % 64)) | inr (here, new) ↦ omega (arith, at, new, bit_at-lt (get_or xs (q / 64) 0) (q % 64)) ]),
      )
  | inr other ↦
      let kept = ap (λ x. bit_at x (q % 64)) (get_or-set_other xs k (q / 64) (bit_or (get_or xs k 0) word) 0 other) in
      ((λ h. inl (sym kept ∙ h)), (λ h. elim h [ inl old ↦ kept ∙ old | inr new ↦ absurd (other new.0) ]))
]

-- those right before the members of word k in the same word are added
pub before_added : (xs : List ℕ) (k members : ℕ) → k < length xs → members < 2 ^ 64 → (p : ℕ) →
    Has (set xs k (bit_or (get_or xs k 0) (members / 2))) p ↔ (Has xs p ⊎ ((b : ℕ) × (b < 64) × (bit_at members b ≡ 1) × (0 < b) × (suc p ≡ k * 64 + b)))
before_added xs k members room fits p =
    let is = word_added xs k (members / 2) room p in (
      (λ h. elim (is.0 h) [
        | inl old ↦ inl old
        | inr (word, bit) ↦
            let at = bit_at-suc members (p % 64) ∙ bit in
            elim (cases_lt (suc (p % 64)) 64) [
              | inl lt ↦ inr (suc (p % 64), lt, at, omega arith, omega (arith, word))
              | inr ge ↦ absurd (let none = bit_at_above members 64 (suc (p % 64)) fits ge in omega (arith, none, at))
            ]
      ]),
      (λ h. elim h [
        | inl old ↦ is.1 (inl old)
        | inr (b, lt, bit, some, same) ↦ is.1 (inr (omega (arith, lt, some, same), sym (bit_at-suc members (p % 64)) ∙ rw (let e : b ≡ suc (p % 64) = omega (arith, lt, some, same) in e) at bit))
      ]),
    )

-- a member that something comes right before is not the first number of all
pub not_first : (members k p b : ℕ) → ((members % 2 ≡ 0) ⊎ (k ≡ 0)) → bit_at members b ≡ 1 → suc p ≡ k * 64 + b → 0 < b
not_first members k p zero (inl even) bit same = absurd (omega (arith, bit_at_lowest members, bit, even))
not_first members k p zero (inr first) bit same = absurd (omega (arith, same, first))
not_first members k p (suc b) how bit same = omega arith

-- a word is what it has in common with another, and the rest
pub word_split : (members word b : ℕ) → b < 64 → members < 2 ^ 64 → (bit_at members b ≡ 1) ↔ ((bit_at (bit_and members word) b ≡ 1) ⊎ (bit_at (bit_and members (bit_not w64 (bit_and members word))) b ≡ 1))
word_split members word b lt fits =
    let both = bit_at_and members word b in
    let not = bit_at_not w64 (bit_and members word) b (omega (arith, fits, and_le_l members word)) lt in
    let rest = bit_at_and members (bit_not w64 (bit_and members word)) b in
    let m = bit_at-lt members b in
    let w = bit_at-lt (bit_and members word) b in (
      (λ h. elim (cases_eq (bit_at (bit_and members word) b) 1) [ inl is ↦ inl is | inr none ↦ inr (omega (arith, h, none, not, rest, m, w)) ]),
      (λ h. elim h [ inl is ↦ omega (arith, is, both, m, bit_at-lt word b) | inr is ↦ omega (arith, is, rest, m, bit_at-lt (bit_not w64 (bit_and members word)) b) ]),
    )

-- the set of one word, which has one member
pub only_one : (set : List ℕ) (range : WordRange) (p : ℕ) → Covers range set → range.first ≡ p / 64 → range.past ≡ p / 64 + 1 → get_or set (p / 64) 0 ≡ 1 * 2 ^ (p % 64) % 2 ^ 64 → (q : ℕ) → Has set q ↔ (q ≡ p)
unfolding Has
only_one set range p covers first past is q = (
  (λ h. let word : q / 64 ≡ p / 64 = (let at = covers.members q h in omega (arith, at.0, at.1, first, past)) in elim (cases_eq (q % 64) (p % 64)) [
    | inl same ↦ omega (arith, word, same)
    | inr other ↦ absurd (let here = ap (λ j. bit_at (get_or set j 0) (q % 64)) word ∙ ap (λ x. bit_at x (q % 64)) is in
        omega (arith, h, here, bit_at_or 0 (1 * 2 ^ (p % 64) % 2 ^ 64) (q % 64), bit_at_set_other w64 0 (p % 64) (omega arith) (q % 64) other, bit_at-zero (q % 64), bit_at-lt (1 * 2 ^ (p % 64) % 2 ^ 64) (q % 64)))
  ]),
  (λ same. rw same (let here = ap (λ x. bit_at x (p % 64)) is in omega (arith, here, bit_at_or 0 (1 * 2 ^ (p % 64) % 2 ^ 64) (p % 64), bit_at_set_same w64 0 (p % 64) (omega arith), bit_at-zero (p % 64), bit_at-lt (1 * 2 ^ (p % 64) % 2 ^ 64) (p % 64)))),
)

-- what a word has in common with one of a set is in the set
pub in_second : (members : ℕ) (set : List ℕ) (k b : ℕ) → b < 64 → bit_at (bit_and members (get_or set k 0)) b ≡ 1 → Has set (k * 64 + b)
in_second members set k b lt h = (at_word set k b lt).1 (omega (arith, h, bit_at_and members (get_or set k 0) b, bit_at-lt members b, bit_at-lt (get_or set k 0) b))
