use Rattle.grep_utility.proofs.{Prelude.take, lemmas.NumberLemmas.Reads}
use Rattle.grep_utility.proofs.number.read_digits.Given as goal

-- the digits before this place were read
abbrev pub invariant-loop-byte : goal.invariant-loop-byte
invariant-loop-byte l = Reads (take l.byte-index l.word) l.value
