use Rattle.re_runs.proofs.{Prelude.{take, refl, arith, length-take, ⊤}, lemmas.{BlockLemmas.{passes_front_run, passes_whole_run, passed_within}, Looks.{look_in_line, none_after}}}
use Rattle.re_runs.proofs.block.swept_at.Goals as goal

pub returns-in_default-clause-passes : goal.returns-in_default-clause-passes
returns-in_default-clause-passes c = λ run finds. passes_whole_run _ _ c.requires.block (rw c.in_default.is at finds)

pub returns-in_default-clause-stops : goal.returns-in_default-clause-stops
returns-in_default-clause-stops c = λ end. none_after c.args.block.now end _ refl

pub returns-in_default-clause-low : goal.returns-in_default-clause-low
returns-in_default-clause-low c = tt

pub returns-clause-passes : goal.returns-clause-passes
returns-clause-passes c = λ run finds. passes_front_run run c.args.block.now c.in-Some.at c.line_start.result (rw c.in-Some.is at finds) c.line_start.ensures.lines

pub returns-clause-low : goal.returns-clause-low
returns-clause-low c = omega (arith, passed_within (λ _. ⊤) (take c.in-Some.at c.args.block.now) c.line_start.result c.line_start.ensures.lines, length-take c.in-Some.at c.args.block.now)

pub returns-clause-stops : goal.returns-clause-stops
returns-clause-stops c = λ end.
    let fits = rw c.in-Some.is at c.requires.within in
    look_in_line c.args.block.now c.line_start.result c.in-Some.at end fits c.line_start.ensures.lines c.line_start.ensures.last
