use Rattle.re_runs.proofs.{Prelude.{rules, map, only, one_run}, lemmas.{BlockLemmas.passes_text, RunLaws.finds_text}}
use Rattle.re_runs.proofs.block.first_line_with.Goals as goal

pub returns-clause-passes : goal.returns-clause-passes
returns-clause-passes c = passes_text _ _ _ (c.swept_at.ensures.passes (one_run (map only c.args.finder.now)) (finds_text _ _ _ c.find_text-found.ensures.found))

pub returns-clause-within : goal.returns-clause-within
returns-clause-within c = rw c.swept_at.ensures.place (search rules)

pub returns-clause-counted : goal.returns-clause-counted
returns-clause-counted c = rw c.swept_at.ensures.place c.find_text-found.ensures.counted
