use Rattle.gaxtrel.proofs.{Prelude.{◌≡◌, ◌+◌, ◌*◌, ◌≤◌, drop, length, AddsAtMost, AreSame, expressions_of, AreNumbers}, ArrayLemmas.PutSoFar}
use Rattle.gaxtrel.proofs.which.put_numbers.Given as goal

-- the numbers of the first matchers were found and written
abbrev pub invariant-loop-matcher : goal.invariant-loop-matcher
invariant-loop-matcher l = record {
  found : PutSoFar (AreNumbers l._whole l.line (expressions_of l.fn.matchers) 0) (AreNumbers l._whole l.line (drop l.matcher-index (expressions_of l.fn.matchers)) l.matcher-index) l.count l.fn.numbers l.numbers;
  number : l.number ≡ l.matcher-index;
  few : l.count ≤ l.matcher-index;
  same : AreSame l.fn.matchers l.matchers;
  steps : AddsAtMost (l.matcher-index * (length l.line + 1)) l.fn.meter l.meter;
}
