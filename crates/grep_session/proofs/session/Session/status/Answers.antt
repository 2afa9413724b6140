use Rattle.grep_session.proofs.{Prelude.{map, matched_expression, inputs_of}, lemmas.{HeadlineLaws.status_of_inputs, KeptLaws.kept_status, SessionLemmas.inputs_are}}
use Rattle.grep_session.proofs.session.Session.status.Goals as goal

pub returns : goal.returns
returns c =
    let s = c.self.inside in
    let es = map matched_expression s.matchers.items in
    let is = rw c.deref.ensures.value at c.status.ensures in
    let right = rw (← is) at (kept_status es s.options s.files.items c.self.invariant.kept) in
    rw (inputs_are c.self.view_is) at (status_of_inputs (inputs_of s) es c.self.invariant.matchers.meant c.status.result right)
