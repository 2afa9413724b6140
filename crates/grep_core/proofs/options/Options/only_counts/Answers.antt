use Rattle.grep_core.proofs.Prelude.{Bool, true, false, refl, sym, ap, ◌∙◌, false≢true, Form, counts}
use Rattle.grep_core.proofs.options.Options.only_counts.Goals as goal

-- whether the form is that of counts
abbrev is_counts : Form → Bool
is_counts counts = true
is_counts _ = false

pub returns-in-Counts : goal.returns-in-Counts
returns-in-Counts c = ((λ _. sym c.in-Counts.ensures), (λ _. refl))

pub returns-in-Nothing : goal.returns-in-Nothing
returns-in-Nothing c = ((λ holds. absurd (false≢true holds)), (λ is. ap is_counts (c.in-Nothing.ensures ∙ is)))

pub returns-in-Names : goal.returns-in-Names
returns-in-Names c = ((λ holds. absurd (false≢true holds)), (λ is. ap is_counts (c.in-Names.ensures ∙ is)))

pub returns-in-Parts : goal.returns-in-Parts
returns-in-Parts c = ((λ holds. absurd (false≢true holds)), (λ is. ap is_counts (c.in-Parts.ensures ∙ is)))

pub returns-in-Lines : goal.returns-in-Lines
returns-in-Lines c = ((λ holds. absurd (false≢true holds)), (λ is. ap is_counts (c.in-Lines.ensures ∙ is)))

pub returns-in-Around : goal.returns-in-Around
returns-in-Around c = ((λ holds. absurd (false≢true holds)), (λ is. ap is_counts (c.in-Around.ensures ∙ is)))
