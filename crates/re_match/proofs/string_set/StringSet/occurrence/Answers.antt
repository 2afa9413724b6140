use Rattle.re_match.proofs.{Prelude.{inl, inr}, lemmas.SetMatches.best_is_part}
use Rattle.re_match.proofs.string_set.StringSet.occurrence.Goals as goal

pub returns-clause-reported : goal.returns-clause-reported
returns-clause-reported c = rw (← c.self.view_is) (best_is_part _ _ _ _ (c.find.ensures.best _ c.self.invariant.1.1))

pub returns-clause-reached : goal.returns-clause-reached
returns-clause-reached c =
    let r = c.find.ensures.reached in
    rw (← c.self.view_is) (record { place = r.place; low = r.low; within = r.within; passed = r.passed; over = elim r.over [ inl end ↦ inl end | inr s ↦ inr (s.0, s.1, s.2 _ c.self.invariant.1.1) ] })
