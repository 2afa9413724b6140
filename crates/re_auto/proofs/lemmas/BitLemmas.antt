-- Words of bits as sets.
use Rattle.re_auto.proofs.Prelude.{Bool, true, false, true≢false, IsTrue, MatchBool, ◌≡◌, ℕ, ◌+◌, ◌-◌, ◌*◌, ◌/◌, ◌%◌, ◌^◌, suc, ◌<◌, ◌≤◌, max, nat_eq, eqb-true, eq-eqb, List, length, take, drop, mul-le-mul_right, get_or, set, ◌⊎◌, inl, inr, refl, sym, ap, ◌∙◌, arith, w64, cases_eq, cases_lt, drop-take, get_or_past, length-replicate, get_or-replicate, get_or-set_same, get_or-set_other, replicate, and_le_l, shr_and_one, bit_at_or, bit_at_and, bit_at-lt, bit_at-zero, bit_at_set_same, bit_at_set_other, bit_at-trailing_zeros, bit_at_clear_same, bit_at_clear_other, bit_and, bit_or, rfl, trans, InWord, length-take, length-drop, ◌↔◌, ◌≢◌, HoldsAt, AllWithin, bit_at, trailing_zeros, bit_not, Has, Are, row_of, between-put_mid, take-put_mid_below, drop-put_mid}
use borrow.Rule.Slice.PartMut.{put_mid}

pub one_of_max : (x y : ℕ) → x < 2 → y < 2 → max x y ≡ 1 → (x ≡ 1) ⊎ (y ≡ 1)
one_of_max x y a b h = grind arith

-- the set has no number after its last word
pub within : (xs : List ℕ) (e : ℕ) → Has xs e → e / 64 < length xs
unfolding Has
within xs e h = grind (arith, get_or_past, bit_at-zero)

-- a second choice that never holds says nothing
pub or_never : {A B : Type 0} → ¬ B → A ↔ (A ⊎ B)
or_never none = grind arith

-- equivalent facts in choices
pub one_of : {A B C D : Type 0} → A ↔ B → C ↔ D → (A ⊎ C) ↔ (B ⊎ D)
one_of f g = grind arith

pub in_either : (a b q : ℕ) → InWord (bit_or a b) q ↔ (InWord a q ⊎ InWord b q)
in_either a b q = grind (arith, bit_at_or, bit_at-lt)

pub in_both : (a b q : ℕ) → InWord (bit_and a b) q ↔ (InWord a q × InWord b q)
in_both a b q = grind (arith, bit_at_and, bit_at-lt)

module _ (old row new : List ℕ) (same : length old ≡ length row) (len : length new ≡ length old) where
  pub or_has : ((j : ℕ) → j < length old → get_or new j 0 ≡ bit_or (get_or old j 0) (get_or row j 0)) → (e : ℕ) → Has new e ↔ (Has old e ⊎ Has row e)
  unfolding Has
  or_has each e = grind (arith, each (e / 64), in_either, within old e, within row e, within new e)

  pub and_has : ((j : ℕ) → j < length old → get_or new j 0 ≡ bit_and (get_or old j 0) (get_or row j 0)) → (e : ℕ) → Has new e ↔ (Has old e × Has row e)
  unfolding Has
  and_has each e = grind (arith, each (e / 64), in_both, within old e, within new e)

pub insert_has : (xs : List ℕ) (e : ℕ) → e < length xs * 64 → (q : ℕ)
    → Has (set xs (e / 64) (bit_or (get_or xs (e / 64) 0) (1 * 2 ^ (e % 64) % 2 ^ 64))) q ↔ (Has xs q ⊎ (q ≡ e))
unfolding Has
insert_has xs e room q =
    elim (cases_eq (q / 64) (e / 64)) [
      | inl w ↦ rw (w, get_or-set_same xs (e / 64) _ 0 (omega arith)) (elim (cases_eq (q % 64) (e % 64)) [
        | inl b ↦ (λ h. inr (omega arith), λ h. rw b (bit_at_set_same w64 (get_or xs (e / 64) 0) (e % 64) (omega arith)))
        | inr b ↦ rw (bit_at_set_other w64 (get_or xs (e / 64) 0) (e % 64) (omega arith) (q % 64) b) (or_never (λ same. b (rw same)))
      ])
      | inr w ↦ rw (get_or-set_other xs (e / 64) (q / 64) _ 0 w) (or_never (λ same. w (rw same)))
    ]

pub at_word : (xs : List ℕ) (k b : ℕ) → b < 64 → Has xs (k * 64 + b) ↔ (bit_at (get_or xs k 0) b ≡ 1)
unfolding Has
at_word xs k b lt =
    let word : (k * 64 + b) / 64 ≡ k = omega arith in
    let bit : (k * 64 + b) % 64 ≡ b = omega arith in
    rw (word, bit) rfl

-- a word of both that is not 0 has a number of both
pub common : (a b : List ℕ) (k : ℕ) → get_or a k 0 < 2 ^ 64 → bit_and (get_or a k 0) (get_or b k 0) ≢ 0 → (e : ℕ) × Has a e × Has b e
common a b k small some =
    let both = bit_and (get_or a k 0) (get_or b k 0) in
    let (lt, found, _) = bit_at-trailing_zeros w64 both (omega arith) (omega (arith, and_le_l (get_or a k 0) (get_or b k 0))) in
    let (in_a, in_b) = (in_both (get_or a k 0) (get_or b k 0) (trailing_zeros w64 both)).0 found in
    (k * 64 + trailing_zeros w64 both, (at_word a k _ lt).1 in_a, (at_word b k _ lt).1 in_b)

pub no_common : (a b : List ℕ) (n : ℕ) → ((j : ℕ) → j < n → bit_and (get_or a j 0) (get_or b j 0) ≡ 0) → length a ≤ n → (e : ℕ) → Has a e → Has b e → ⊥
unfolding Has
no_common a b n each le e h k = omega (arith, bit_at-zero (e % 64), rw (each (e / 64) (omega (arith, within a e h))) at ((in_both (get_or a (e / 64) 0) (get_or b (e / 64) 0) (e % 64)).1 (h, k)))

-- a word's lowest bit, and the word without it
pub record IsLowest (word k : ℕ) : Type 0 where
  pub small : k < 64
  pub set : bit_at word k ≡ 1
  pub less : bit_and word (bit_not w64 (1 * 2 ^ k % 2 ^ 64)) < word
  pub gone : bit_at (bit_and word (bit_not w64 (1 * 2 ^ k % 2 ^ 64))) k ≡ 1 → ⊥
  pub rest : (b : ℕ) → b < 64 → (bit_at word b ≡ 1) ↔ ((bit_at (bit_and word (bit_not w64 (1 * 2 ^ k % 2 ^ 64))) b ≡ 1) ⊎ (b ≡ k))

pub lowest : (word : ℕ) → 0 < word → word < 2 ^ 64 → IsLowest word (trailing_zeros w64 word)
lowest word some fits =
    let found = bit_at-trailing_zeros w64 word some fits in
    let k = trailing_zeros w64 word in
    let left = bit_and word (bit_not w64 (1 * 2 ^ k % 2 ^ 64)) in
    let gone = bit_at_clear_same w64 word k found.0 in
    record {
      small = found.0;
      set = found.1;
      less = grind (arith, gone, and_le_l word (bit_not w64 (1 * 2 ^ k % 2 ^ 64)));
      gone = λ h. omega (arith, gone);
      rest = λ b lt. grind (arith, bit_at_clear_other w64 word k found.0 b lt, found.1, gone);
    }

-- the numbers of the one word are all in the other
abbrev pub AreAmong : ℕ → ℕ → Type 0
AreAmong left word = (b : ℕ) → b < 64 → bit_at left b ≡ 1 → bit_at word b ≡ 1

-- what is there now, and R of what is left of a word, are together what was there and R of the
-- whole word
abbrev pub AddsUp : (now old : Type 0) (R : ℕ → Type 0) (left word : ℕ) → Type 0
AddsUp now old R left word = (now ⊎ ((b : ℕ) × (b < 64) × (bit_at left b ≡ 1) × R b)) ↔ (old ⊎ ((b : ℕ) × (b < 64) × (bit_at word b ≡ 1) × R b))

-- one more added, one less left
pub one_added : (A B : Type 0) (R : ℕ → Type 0) (old new k : ℕ) → k < 64 → (B ↔ (A ⊎ R k)) →
    ((b : ℕ) → b < 64 → (bit_at old b ≡ 1) ↔ ((bit_at new b ≡ 1) ⊎ (b ≡ k))) →
    AddsUp B A R new old
one_added A B R old new k small add rest = grind arith

-- nothing is left of a word without bits
pub none_left : (B C : Type 0) (R : ℕ → Type 0) (left : ℕ) → left ≡ 0 → ((B ⊎ ((b : ℕ) × (b < 64) × (bit_at left b ≡ 1) × R b)) ↔ C) → B ↔ C
none_left B C R left zero all = grind (arith, bit_at-zero)

-- the members of one word are added, and the next word is the first one left
pub word_added : {A B : Type 0} {R : ℕ → Type 0} (from : List ℕ) (k : ℕ) →
    (B ↔ (A ⊎ ((b : ℕ) × (b < 64) × (bit_at (get_or from k 0) b ≡ 1) × R (k * 64 + b)))) →
    (B ⊎ ((p : ℕ) × ((k + 1) * 64 ≤ p) × Has from p × R p)) ↔ (A ⊎ ((p : ℕ) × (k * 64 ≤ p) × Has from p × R p))
word_added from k add = (
  elim [ inl b ↦ elim (add.0 b) [ inl a ↦ inl a | inr (b, lt, h, r) ↦ inr (k * 64 + b, omega arith, (at_word from k b lt).1 h, r) ] | inr (p, le, h, r) ↦ inr (p, omega arith, h, r) ],
  elim [
    | inl a ↦ inl (add.1 (inl a))
    | inr (p, low, h, r) ↦ elim (cases_lt p ((k + 1) * 64)) [
      | inl high ↦
          let lt : p - k * 64 < 64 = omega arith in
          let same : p ≡ k * 64 + (p - k * 64) = omega arith in
          inl (add.1 (inr (p - k * 64, lt, (at_word from k (p - k * 64) lt).0 (rw same at h), rw same at r)))
      | inr high ↦ inr (p, high, h, r)
    ]
  ],
)

-- nothing is left after the last word
pub all_added : {A B : Type 0} {R : ℕ → Type 0} (from : List ℕ) (k : ℕ) → length from ≤ k →
    ((B ⊎ ((p : ℕ) × (k * 64 ≤ p) × Has from p × R p)) ↔ (A ⊎ ((p : ℕ) × Has from p × R p))) → B ↔ (A ⊎ ((p : ℕ) × Has from p × R p))
all_added from k le add = grind (arith, within)

pub chained : {A B C : Type 0} → A ↔ B → B ↔ C → A ↔ C
chained f g = grind arith

pub all_zero : (xs : List ℕ) → ((k : ℕ) → k < length xs → get_or xs k 0 ≡ 0) → (e : ℕ) → Has xs e → ⊥
unfolding Has
all_zero xs each e h = omega (arith, rw (each (e / 64) (within xs e h)) at h, bit_at-zero (e % 64))

-- whether a set has a number is the bit in its word
pub has_bit : (xs : List ℕ) (e : ℕ) → IsTrue (nat_eq (bit_and (get_or xs (e / 64) 0 / 2 ^ (e % 64)) 1) 1) ↔ Has xs e
unfolding Has
has_bit xs e =
    let shifted = shr_and_one (get_or xs (e / 64) 0) (e % 64) in
    (λ h. sym shifted ∙ eqb-true _ 1 h, λ h. eq-eqb _ 1 (shifted ∙ h))

-- n zeros are the empty set
pub zeros_are : (n : ℕ) → Are (replicate n 0) (λ _. ⊥) n
zeros_are n = (
  length-replicate {A = ℕ} n 0,
  λ q. (λ h. all_zero (replicate n 0) (λ k lt. let within : k < n = omega (arith, length-replicate {A = ℕ} n 0) in get_or-replicate n k 0 0 within) q h, absurd),
)

-- a word that is not 0 has a number
some_bit : (xs : List ℕ) (k : ℕ) → get_or xs k 0 < 2 ^ 64 → get_or xs k 0 ≢ 0 → (e : ℕ) × Has xs e
some_bit xs k small some =
    let found = lowest (get_or xs k 0) (omega arith) small in
    (k * 64 + trailing_zeros w64 (get_or xs k 0), (at_word xs k _ found.small).1 found.set)

-- a set is empty exactly if all of its words are 0
pub clear_says : (xs : List ℕ) (r : Bool) → ((k : ℕ) → get_or xs k 0 < 2 ^ 64) →
    MatchBool r (AllWithin (λ x. x ≡ 0) xs 0 (length xs)) ((k : ℕ) × (k < length xs) × HoldsAt (λ x. x ≢ 0) xs k) →
    IsTrue r ↔ ((e : ℕ) → Has xs e → ⊥)
clear_says xs true small each = (λ h. all_zero xs (λ k lt. each k 0 (omega arith) lt), λ none. refl)
clear_says xs false small (k, lt, some) = (λ h. absurd (true≢false (sym h)), λ none. let (e, h) = some_bit xs k (small k) (some 0) in absurd (none e h))

-- a row within the table has its width, and is the end of a front
pub row_long : (table : List ℕ) (width r : ℕ) → r * width + width ≤ length table → length (row_of table width r) ≡ width
row_long table width r room = omega (arith, length-take (r * width + width - r * width) (drop (r * width) table), length-drop (r * width) table)

pub row_swap : (table : List ℕ) (width r : ℕ) → row_of table width r ≡ drop (r * width) (take (r * width + width) table)
row_swap table width r = let e : r * width + width - r * width ≡ width = omega arith in rw e (sym (drop-take (r * width) width table))

-- rows after a write to one of them
module _ (table new : List ℕ) (width r : ℕ) (room : r * width + width ≤ length table) (len : length new ≡ width) where
  abbrev put : List ℕ
  put = put_mid (r * width) (r * width + width - r * width) table new

  pub row_written : row_of put width r ≡ new
  row_written = between-put_mid (r * width) (r * width + width - r * width) table new (r * width + width) (omega arith) (omega arith)

  pub row_kept : (p : ℕ) → p * width + width ≤ length table → (p ≡ r → ⊥) → row_of put width p ≡ row_of table width p
  row_kept p within other =
      elim (cases_lt p r) [
        | inl lt ↦
            let below : p * width + width ≤ r * width = (let h = mul-le-mul_right width lt in omega arith) in
            row_swap put width p ∙ ap (drop (p * width)) (take-put_mid_below (r * width) (r * width + width - r * width) table new (p * width + width) below (omega arith)) ∙ sym (row_swap table width p)
        | inr ge ↦
            let above : r * width + width ≤ p * width = (let lt : suc r ≤ p = omega arith in let h = mul-le-mul_right width lt in omega arith) in
            ap (take (p * width + width - p * width)) (drop-put_mid (r * width) (r * width + width - r * width) table new (p * width) (omega arith) (omega arith) (omega arith))
      ]

  pub row_added : (S : ℕ → Type 0) → ((q : ℕ) → Has new q ↔ (Has (row_of table width r) q ⊎ S q)) →
      (p q : ℕ) → p * width + width ≤ length table → Has (row_of put width p) q ↔ (Has (row_of table width p) q ⊎ ((p ≡ r) × S q))
  row_added S adds p q within = elim (cases_eq p r) [ inl same ↦ rw (same, row_written) (trans (adds q) (one_of rfl (λ s. (refl, s), λ s. s.1))) | inr other ↦ rw (row_kept p within other) (or_never (λ more. other more.0)) ]
