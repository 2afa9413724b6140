-- Sets of numbers that are one word of bits.
use Rattle.re_auto.proofs.{Prelude.{symm, Bool, ◌≡◌, ℕ, ◌^◌, ◌<◌, ◌≤◌, List, length, length-set, get_or, set, ◌⊎◌, ◌∙◌, arith, bit_and, ◌↔◌, bit_at, Mode, Has, InWord, Part, MayBegin, IsNext, get_or-set_same, bit_at_above}, lemmas.BitLemmas.{in_both, within}}

-- a word has no number above its last bit
none_above : (word e : ℕ) → word < 2 ^ 64 → 64 ≤ e → InWord word e → ⊥
none_above word e fits le h = omega (arith, bit_at_above word 64 e fits le)

-- the members of a one-word list are those of its word
pub word_has : (xs : List ℕ) → length xs ≡ 1 → get_or xs 0 0 < 2 ^ 64 → (q : ℕ) → InWord (get_or xs 0 0) q ↔ Has xs q
unfolding Has
word_has xs one fits q = grind (arith, none_above, within)

-- the members of a one-word list after its word is written
pub written_has : (xs : List ℕ) (word : ℕ) → length xs ≡ 1 → word < 2 ^ 64 → (q : ℕ) → Has (set xs 0 word) q ↔ InWord word q
written_has xs word one fits q =
    let is = get_or-set_same xs 0 word 0 (omega arith) in
    rw is at (symm (word_has (set xs 0 word) (length-set xs 0 word ∙ one) (rw is fits) q))

-- the members of a word are below 64
pub bounded : (word : ℕ) (R : ℕ → Type 0) → word < 2 ^ 64 → ((b : ℕ) × (b < 64) × (bit_at word b ≡ 1) × R b) ↔ ((p : ℕ) × InWord word p × R p)
bounded word R fits = grind (arith, none_above)

module _ (part : Part) (mode : Mode) (begin : Bool) (byte : ℕ) where
  -- a step of a set that is one word
  pub next_word : (from first after taking : ℕ) → ((q : ℕ) → InWord first q ↔ (MayBegin mode begin × part.first begin q)) →
      ((q : ℕ) → InWord after q ↔ (InWord first q ⊎ ((p : ℕ) × InWord from p × part.follow p q))) → ((q : ℕ) → InWord taking q ↔ part.takes q byte) →
      IsNext part mode begin (InWord from) byte (InWord (bit_and after taking))
  next_word from first after taking begins follows takes q = grind (arith, in_both)

  -- the step of a one-word set is a step of the set itself
  pub next_of_word : (S T : ℕ → Type 0) (from into : ℕ) → ((q : ℕ) → InWord from q ↔ S q) → ((q : ℕ) → InWord into q ↔ T q) →
      IsNext part mode begin (InWord from) byte (InWord into) → IsNext part mode begin S byte T
  next_of_word S T from into is are next q = grind arith
