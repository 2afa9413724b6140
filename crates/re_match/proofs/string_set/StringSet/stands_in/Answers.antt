use Rattle.re_match.proofs.{Prelude.{refl, inl, inr, sym, ◌∙◌, false≢true}, lemmas.SetMatches.{empty_matches, ends_decide}}
use Rattle.re_match.proofs.string_set.StringSet.stands_in.Goals as goal

pub returns-then-self-clause-reported : goal.returns-then-self-clause-reported
returns-then-self-clause-reported c = rw (← c.self.view_is) ((λ _. empty_matches _ c.args.line.now (c.self.invariant.2.0 c.if-self.true)), (λ _. refl))

pub returns-then-self-clause-looked : goal.returns-then-self-clause-looked
returns-then-self-clause-looked c = rw (← c.self.view_is) (inl (c.self.invariant.2.0 c.if-self.true, refl))

pub returns-clause-reported : goal.returns-clause-reported
returns-clause-reported c = rw (c.is_some.ensures, ← c.self.view_is) (ends_decide _ _ _ (λ s. false≢true (sym c.if-self.false ∙ c.self.invariant.2.1 s)) (c.first_end.ensures.ends _ c.self.invariant.1.1))

pub returns-clause-looked : goal.returns-clause-looked
returns-clause-looked c = rw (← c.self.view_is) (inr (c.first_end.result, c.first_end.ensures.ends _ c.self.invariant.1.1, c.first_end.ensures.counted))
