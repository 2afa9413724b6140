use Rattle.{re_ends.proofs.Prelude.{arith, ap, inl, inr, ℕ, List, ◌≡◌, ◌/◌, ◌<◌, ◌≤◌, Has, cases_lt, get_or}, std.{specs.{Prelude.◌%◌, Int.bit_at}, proofs.lemmas.Nat.Bits.bit_at-zero}}
use Rattle.re_ends.proofs.groups.next_word.Goals as goal

-- where the words between are 0, no member is in them
none_between : (set : List ℕ) (from past : ℕ) → ((j : ℕ) → from ≤ j → j < past → get_or set j 0 ≡ 0) → (q : ℕ) → Has set q → from ≤ q / 64 → past ≤ q / 64
unfolding Has
none_between set from past zeros q h ge = elim (cases_lt (q / 64) past) [
  | inl lt ↦ let none = ap (λ x. bit_at x (q % 64)) (zeros (q / 64) ge lt) in absurd (omega (arith, none, h, bit_at-zero (q % 64)))
  | inr after ↦ after
]

pub returns-then-set-k-ne0-clause-first : goal.returns-then-set-k-ne0-clause-first
returns-then-set-k-ne0-clause-first c = none_between c.args.set.now c.args.from c.words.k c.words.invariant

pub returns-clause-first : goal.returns-clause-first
returns-clause-first c = none_between c.args.set.now c.args.from c.args.past (λ j ge lt. c.words.invariant j ge (omega (arith, lt, c.words-test.false, c.requires.order)))
