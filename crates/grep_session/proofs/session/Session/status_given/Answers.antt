use Rattle.grep_session.proofs.{Prelude.{map, matched_expression, inputs_of}, lemmas.{HeadlineLaws.{status_of_inputs, known_of}, KeptLaws.given_status, SessionLemmas.inputs_are}}
use Rattle.grep_session.proofs.session.Session.status_given.Goals as goal

pub returns : goal.returns
returns c =
    let s = c.self.inside in
    let es = map matched_expression s.matchers.items in
    let is = rw c.deref.ensures.value at c.status_given.ensures in
    let known = known_of (inputs_of s) c.args.self.now.inputs c.args.some (inputs_are c.self.view_is) c.requires es c.self.invariant.matchers.meant in
    let right = rw (← is) at (given_status es s.options s.files.items c.self.invariant.kept c.args.some known) in
    rw (inputs_are c.self.view_is) at (status_of_inputs (inputs_of s) es c.self.invariant.matchers.meant c.status_given.result right)
