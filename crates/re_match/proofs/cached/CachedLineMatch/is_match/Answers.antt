use Rattle.{re_match.proofs.{Prelude.{arith, inl, refl}, lemmas.{LookLaws.looks_once, StepSums.adds_on}}, re_meter.proofs.lemmas.Adding.adds_within, re_needle.proofs.lemmas.NeedleLaws.settled_says, re_steps.proofs.lemmas.StageLaws.{searches_say, searches_steps}}
use Rattle.re_match.proofs.cached.CachedLineMatch.is_match.Goals as goal

pub returns-in-Some-clause-reported : goal.returns-in-Some-clause-reported
returns-in-Some-clause-reported c = settled_says _ _ _ _ c.in-Some.ensures.settled

pub returns-in-Some-clause-steps : goal.returns-in-Some-clause-steps
returns-in-Some-clause-steps c = adds_within _ _ _ _ _ _ (omega arith) (omega arith) (looks_once _ _ _ _ c.in-Some.ensures.looked)

pub returns-in-Some-clause-counted : goal.returns-in-Some-clause-counted
returns-in-Some-clause-counted c = record { said = _; looked = c.settled.new.meter; looks = c.in-Some.ensures.looked; answers = inl (refl, record { settled = c.in-Some.ensures.settled; cache = refl; steps = refl }) }

pub returns-clause-reported : goal.returns-clause-reported
returns-clause-reported c = searches_say c.args.self.now.whole c.searched.ensures.searches

pub returns-clause-steps : goal.returns-clause-steps
returns-clause-steps c =
    adds_on (looks_once _ _ _ _ c.settled.ensures.looked) (searches_steps c.searched.ensures.searches) (omega arith) (omega arith)
