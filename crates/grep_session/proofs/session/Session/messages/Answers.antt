use Rattle.grep_session.proofs.{Prelude.{map, matched_expression, inputs_of}, lemmas.{HeadlineLaws.reports_all_inputs, SessionLemmas.inputs_are}}
use Rattle.grep_session.proofs.session.Session.messages.Goals as goal

pub returns : goal.returns
returns g c =
    let es = map matched_expression c.self.inside.matchers.items in
    let reports = rw c.deref.ensures.value at c.write_messages.ensures in
    rw (inputs_are c.self.view_is) at
    (reports_all_inputs (inputs_of c.self.inside) es c.self.invariant.matchers.meant g.W.CountedWrite.contents g.W.CountedWrite.failures c.args.margin.now c.args.out.now c.write_messages.new.out c.write_messages.result (reports es c.self.invariant.kept))
