use Rattle.{re_search.proofs.Prelude.{◌+◌, ◌-◌, ◌*◌, length, take, false, FindsPart, AreSame, expressions_of}, re_auto.specs.Searches.AddsAtMost}
use Rattle.re_search.proofs.several.parts.Given as goal

abbrev pub invariant-loop-matcher : goal.invariant-loop-matcher
invariant-loop-matcher l = record {
  reported : FindsPart (take l.matcher-index (expressions_of l.fn.matchers)) l.line false l.from l.best;
  same_matchers : AreSame l.fn.matchers l.matchers;
  steps : AddsAtMost (l.matcher-index * (length l.line - l.from + 1)) l.fn.meter l.meter;
}
