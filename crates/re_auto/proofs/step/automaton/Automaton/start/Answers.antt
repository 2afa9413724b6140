use Rattle.re_auto.proofs.{Prelude.{refl, ◌∙◌, with_items_is}, lemmas.SetsByWords.starts_at}
use Rattle.re_auto.proofs.step.automaton.Automaton.start.Goals as goal

pub returns-clause-stands : goal.returns-clause-stands
returns-clause-stands c = λ mode line. starts_at _ _ _ _ refl (rw (with_items_is c.args.into.now.words c.clear.new.into (c.clear.ensures.len ∙ c.deref_mut.ensures.len)) c.clear.ensures.none)
