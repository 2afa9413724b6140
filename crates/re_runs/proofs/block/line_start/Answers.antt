use Rattle.re_runs.proofs.{Prelude.⊤, lemmas.BlockLemmas.{passes_after, passes_none}}
use Rattle.re_runs.proofs.block.line_start.Goals as goal

pub returns-in-Some-clause-lines : goal.returns-in-Some-clause-lines
returns-in-Some-clause-lines c = passes_after _ _ c.in-Some.ensures.0 c.in-Some.ensures.1

pub returns-in-None-clause-lines : goal.returns-in-None-clause-lines
returns-in-None-clause-lines c = passes_none (λ _. ⊤) _
