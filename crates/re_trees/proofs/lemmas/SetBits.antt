-- Sets of bytes, by the bits of their words.
use Rattle.re_trees.proofs.Prelude.{◌≡◌, ◌≢◌, ℕ, ◌+◌, ◌-◌, ◌*◌, ◌/◌, ◌%◌, ◌^◌, ◌<◌, ◌≤◌, ◌⊎◌, inl, inr, min, not, ◌&&◌, ◌||◌, IsTrue, nat_eq, sym, ap, ◌∙◌, arith, fun_ext, cases_eq, cases_lt, true≢false, eq-eqb, bit_at-lt, bit_at-zero, bit_at_above, bit_at_and, bit_at_not, bit_at_or, bit_at_cat_low, bit_at_cat_high, bit_at_mask_below, bit_at_mask_inside, bit_at_mask_above, bit_at-pow_same, bit_at-pow_other, one_shl, bit_at-trailing_zeros, and_le_l, shr-shr, bit_and, bit_or, bit_not, trailing_zeros, w128, ByteSet, Bytes, IsLowest, Some, Takes, closed, has_bit, members, nothing, only, range, union, without}

-- a set whose words have the bits of a test
by_words : (s : ByteSet) (f : Bytes) → ((i : ℕ) → i < 128 → has_bit s.low i ≡ f i) → ((i : ℕ) → has_bit s.high i ≡ f (128 + i)) → members s ≡ f
by_words s f low high = fun_ext (λ b. elim (cases_lt b 128) [
  | inl h ↦ let one = low b h in grind arith
  | inr h ↦ let place : 128 + (b - 128) ≡ b = omega arith in let two = high (b - 128) in grind arith
])

-- a word of ones, as a range
ruleset masks = (bit_at_mask_below, bit_at_mask_inside, bit_at_mask_above)

run : (begin end first last i j : ℕ) → (i < begin → j < first) → (begin ≤ i → first ≤ j) → (i < end → j ≤ last) → (end ≤ i → last < j) →
    has_bit (2 ^ end - 2 ^ begin) i ≡ range first last j
run begin end first last i j before from within after = grind (arith, masks)

pub members-range : (first last : ℕ) → first < 256 → last < 256 → {low high : ℕ} → low ≡ 2 ^ min (last + 1) 128 - 2 ^ min first 128 → high ≡ 2 ^ min (last + 1 - 128) 128 - 2 ^ min (first - 128) 128 →
    members (record { low = low; high = high }) ≡ range first last
members-range first last f g e h = by_words _ _ (λ i k. rw e (grind (arith, masks))) (λ i. rw h (grind (arith, masks)))

-- the bits of both words, of either, and of neither
both_bits : (m n i : ℕ) → has_bit (bit_and m n) i ≡ (has_bit m i && has_bit n i)
both_bits m n i = grind (arith, bit_at-lt, bit_at_and)

either_bits : (m n i : ℕ) → has_bit (bit_or m n) i ≡ (has_bit m i || has_bit n i)
either_bits m n i = grind (arith, bit_at-lt, bit_at_or)

not_bit : (n i : ℕ) → n < 2 ^ 128 → i < 128 → has_bit (bit_not w128 n) i ≡ not (has_bit n i)
not_bit n i fits h = rw (bit_at_not w128 n i fits h) (grind (arith, bit_at-lt n i))

-- the words of a union are those of its parts, bit by bit
pub members-union : (s t : ByteSet) → ◌≡◌ {A = Bytes} (members (record { low = bit_or s.low t.low; high = bit_or s.high t.high })) (union (members s) (members t))
members-union s t = fun_ext (λ b. grind (arith, either_bits))

pub members-complement : (s : ByteSet) → s.low < 2 ^ 128 → s.high < 2 ^ 128 → (b : ℕ) → b < 256 →
    members (record { low = bit_not w128 s.low; high = bit_not w128 s.high }) b ≡ not (members s b)
members-complement s low high b fits = grind (arith, not_bit)

-- the one bit of a power of two
only_bit : (k i : ℕ) → k < 128 → has_bit (1 * 2 ^ k % 2 ^ 128) i ≡ nat_eq i k
only_bit k i small = rw (one_shl k 128 small) (grind (arith, bit_at-pow_same, bit_at-pow_other))

pub only-low : (b : ℕ) → b < 128 → members (record { low = 1 * 2 ^ b % 2 ^ 128; high = 0 }) ≡ only b
only-low b small = by_words _ _ (λ i h. only_bit b i small) (λ i. grind (arith, bit_at-zero))

pub only-high : (b : ℕ) → 128 ≤ b → b < 256 → members (record { low = 0; high = 1 * 2 ^ (b - 128) % 2 ^ 128 }) ≡ only b
only-high b large small = by_words _ _ (λ i h. grind (arith, bit_at-zero)) (λ i. let one = only_bit (b - 128) i (omega arith) in grind arith)

-- a word without one of its bits
cleared : (n k i : ℕ) → n < 2 ^ 128 → k < 128 → has_bit (bit_and n (bit_not w128 (1 * 2 ^ k % 2 ^ 128))) i ≡ without (has_bit n) k i
cleared n k i fits small = rw both_bits (elim (cases_lt i 128) [
  | inl h ↦ rw (not_bit (1 * 2 ^ k % 2 ^ 128) i (omega arith) h, only_bit k i small)
  | inr h ↦ grind (arith, bit_at_above n 128 i fits h)
])

-- the lowest bit of a word, and the word without it
pub lowest : (n : ℕ) → 0 < n → n < 2 ^ 128 → IsLowest n (trailing_zeros w128 n) (bit_and n (bit_not w128 (1 * 2 ^ trailing_zeros w128 n % 2 ^ 128)))
lowest n some fits =
    let (small, one, _) = bit_at-trailing_zeros w128 n some fits in
    let k = trailing_zeros w128 n in
    let left = bit_and n (bit_not w128 (1 * 2 ^ k % 2 ^ 128)) in
    record { small = small; less = grind (arith, cleared n k k fits small, and_le_l n (bit_not w128 (1 * 2 ^ k % 2 ^ 128))); held = eq-eqb _ 1 one; rest = λ i. cleared n k i fits small }

-- a byte of the second word is taken out of a set
pub takes_high : (s : ByteSet) (k left : ℕ) → IsTrue (has_bit s.high k) → ((i : ℕ) → has_bit left i ≡ without (has_bit s.high) k i) →
    Takes s (Some (128 + k)) (record { low = s.low; high = left })
takes_high s k left held rest = (grind arith, by_words _ _ (λ i h. grind arith) (λ i. let now = rest i in grind arith))

-- a member other than the one taken is left
pub still : (old new : Bytes) (b x : ℕ) → new ≡ without old b → x ≢ b → IsTrue (old x) → IsTrue (new x)
still old new b x e other has = grind (arith, ap (λ f. f x) e)

-- what is left was there
pub was : (old new : Bytes) (b x : ℕ) → new ≡ without old b → IsTrue (new x) → IsTrue (old x)
was old new b x e has = grind (arith, ap (λ f. f x) e)

-- how many bytes a set has, by the first two taken
pub not_empty : (s : Bytes) (b : ℕ) → s ≡ nothing → s ≢ only b
not_empty s b none e = grind (arith, ap (λ f. f b) none, ap (λ f. f b) e)

pub not_two : (s t : Bytes) (b c d : ℕ) → IsTrue (s b) → t ≡ without s b → IsTrue (t c) → s ≢ only d
not_two s t b c d first e second is = grind (arith, ap (λ f. f c) e, ap (λ f. f b) is, ap (λ f. f c) is)

pub is_only : (s t : Bytes) (b : ℕ) → IsTrue (s b) → t ≡ without s b → t ≡ nothing → s ≡ only b
is_only s t b has e none = fun_ext (λ x. grind (arith, ap (λ f. f x) e, ap (λ f. f x) none))

-- all that are taken pass
pub one_passes : (P : ℕ → Type 0) (set old new : Bytes) (b : ℕ) → new ≡ without old b → P b → ((x : ℕ) → IsTrue (set x) → IsTrue (old x) ⊎ P x) → (x : ℕ) → IsTrue (set x) → IsTrue (new x) ⊎ P x
one_passes P set old new b e own all x has = elim (all x has) [
  | inl left ↦ elim (cases_eq x b) [ inl same ↦ inr (rw same own) | inr other ↦ inl (still old new b x e other left) ]
  | inr done ↦ inr done
]

pub all_passed : (P : ℕ → Type 0) (set left : Bytes) → left ≡ nothing → ((x : ℕ) → IsTrue (set x) → IsTrue (left x) ⊎ P x) → (x : ℕ) → IsTrue (set x) → P x
all_passed P set left none all x has = elim (all x has) [ inl more ↦ absurd (true≢false (sym more ∙ ap (λ f. f x) none)) | inr done ↦ done ]

-- the other case of letters, by 32 places
lowered : (u n i : ℕ) → u ≡ 2 ^ 91 - 2 ^ 65 → i < 128 → has_bit (bit_and u n * 2 ^ 32 % 2 ^ 128) i ≡ (range 97 122 i && has_bit n (i - 32))
lowered u n i e fits =
    let exact : bit_and u n * 2 ^ 32 % 2 ^ 128 ≡ bit_and u n * 2 ^ 32 + 0 = omega (arith, and_le_l u n) in
    rw exact (elim (cases_lt i 32) [
      | inl h ↦ grind (arith, bit_at_cat_low (bit_and u n) 32 0 i h, bit_at-zero)
      | inr h ↦ rw (bit_at_cat_high (bit_and u n) 32 0 i (omega arith) h, both_bits, e, run 65 91 97 122 (i - 32) i (λ x. omega arith) (λ x. omega arith) (λ x. omega arith) (λ x. omega arith))
    ])

raised : (u n i : ℕ) → u ≡ 2 ^ 91 - 2 ^ 65 → has_bit (bit_and u (n / 2 ^ 32)) i ≡ (range 65 90 i && has_bit n (32 + i))
raised u n i e = rw (both_bits, shr-shr n 32 i, e, run 65 91 65 90 i i (λ x. x) (λ x. x) (λ x. omega arith) (λ x. omega arith))

pub members-closed : (s : ByteSet) (u : ℕ) → u ≡ 2 ^ 91 - 2 ^ 65 →
    members (record { low = bit_or (bit_or s.low (bit_and u s.low * 2 ^ 32 % 2 ^ 128)) (bit_and u (s.low / 2 ^ 32)); high = s.high }) ≡ closed (members s)
members-closed s u e = by_words _ _ (λ i h. rw (either_bits, either_bits, lowered u s.low i e h, raised u s.low i e) (grind arith)) (λ i. grind arith)
