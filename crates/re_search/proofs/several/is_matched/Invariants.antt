use Rattle.{re_search.proofs.Prelude.{◌+◌, ◌*◌, length, take, SomeMatches, AreSame, expressions_of}, re_auto.specs.Searches.AddsAtMost}
use Rattle.re_search.proofs.several.is_matched.Given as goal

abbrev pub invariant-loop-matcher : goal.invariant-loop-matcher
invariant-loop-matcher l = record {
  none : ¬ SomeMatches (take l.matcher-index (expressions_of l.fn.matchers)) l.line l._whole;
  same_matchers : AreSame l.fn.matchers l.matchers;
  steps : AddsAtMost (l.matcher-index * (length l.line + 1)) l.fn.meter l.meter;
}
