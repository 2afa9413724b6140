use Rattle.grep_session.proofs.{Prelude.{map, matched_expression, inputs_of}, lemmas.{HeadlineLaws.reports_inputs, KeptLaws.files_fit, SessionLemmas.inputs_are}}
use Rattle.grep_session.proofs.session.Session.report.Goals as goal

pub write_report-requires : goal.write_report-requires
write_report-requires g c =
    let s = c.self.inside in
    rw c.deref.ensures.value (files_fit (map matched_expression s.matchers.items) s.options s.files.items c.self.invariant.kept)

pub returns : goal.returns
returns g c =
    let es = map matched_expression c.self.inside.matchers.items in
    let reports = rw c.deref.ensures.value at c.write_report.ensures in
    rw (inputs_are c.self.view_is) at
    (reports_inputs (inputs_of c.self.inside) es c.self.invariant.matchers.meant g.W.CountedWrite.contents g.W.CountedWrite.failures c.args.margin.now c.args.out.now c.write_report.new.out c.write_report.result (reports es c.self.invariant.kept))
