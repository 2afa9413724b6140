use Rattle.grep_utility.proofs.{Prelude.{◌≡◌, ◌+◌, ◌-◌, ◌*◌, ◌^◌, min, length, get_or, IsTrue, Digit, in_class, rules, arith, sym, take_all}, lemmas.NumberLemmas.{digits_next, digits_some, digits_none}}
use Rattle.grep_utility.proofs.number.read_digits.Goals as goal

pub returns-then-not-is_ascii_digit : goal.returns-then-not-is_ascii_digit
returns-then-not-is_ascii_digit c = digits_none c.args.word.now c.loop-byte.byte-index c.loop-byte-test.true (search rules)

pub loop-byte-preserved : goal.loop-byte-preserved
loop-byte-preserved c =
    let i = c.loop-byte.byte-index in
    let here : IsTrue (in_class Digit (get_or c.args.word.now i 0)) = search rules in
    let sum : c.min-value.result ≡ min (c.loop-byte.value * 10 + (get_or c.args.word.now i 0 - 48)) (2 ^ 64) = search rules in
    digits_next c.args.word.now i c.loop-byte.value _ c.loop-byte-test.true c.loop-byte.invariant here sum

pub returns : goal.returns
returns c =
    let all : c.loop-byte.byte-index ≡ length c.args.word.now = omega arith in
    sym (digits_some c.args.word.now c.loop-byte.value (search rules) (rw (take_all c.loop-byte.byte-index c.args.word.now (omega arith)) at c.loop-byte.invariant))
