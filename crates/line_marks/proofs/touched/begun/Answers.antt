use Rattle.line_marks.proofs.{Prelude.arith, lemmas.TakeLemmas.{far_first, no_first, takes_idle}}
use Rattle.line_marks.proofs.touched.begun.Goals as goal

pub returns-in_default : goal.returns-in_default
returns-in_default c =
    takes_idle _ _ (no_first _ _ c.in_default.ensures.value)
    c.idle.ensures.one c.idle.ensures.many c.idle.ensures.lead

pub returns-then-start-first : goal.returns-then-start-first
returns-then-start-first c =
    takes_idle _ _ (far_first _ _ _ c.in-Some.ensures.value (omega arith))
    c.idle-then-start-first.ensures.one c.idle-then-start-first.ensures.many c.idle-then-start-first.ensures.lead
