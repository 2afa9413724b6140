use Rattle.gaxtrel.proofs.{Prelude.{IsTrue, ◌↔◌, rules, IsSought}, ServedLemmas.{asked_line, line_served, stopped}}
use Rattle.gaxtrel.proofs.search.gaxtrel_is_match.Goals as goal

pub returns-then-not-allows : goal.returns-then-not-allows
returns-then-not-allows c = stopped c.args.line.now c.in-Some.ensures.taken c.deref_mut.ensures.value c.in-Patterns.is c.if-not-allows.ensures c.put_back-then-not-allows.ensures.answer c.put_back-then-not-allows.ensures.held c.put_back-then-not-allows.ensures.work

pub returns : goal.returns
returns c = asked_line c.args.line.now c.in-Some.ensures.taken c.deref_mut.ensures.value c.in-Patterns.is c.if-not-allows.ensures c.of.ensures.held c.is_match-matched.ensures.same c.fresh_meter-meter.ensures c.is_match-matched.ensures.steps c.of.ensures.work (λ sought serves.
    let line = line_served serves c.args.line.now in
    let told : IsTrue c.is_match-matched.result ↔ IsSought sought c.args.line.now = ((λ h. line.0 (c.is_match-matched.ensures.reported.0 h)), (λ h. c.is_match-matched.ensures.reported.1 (line.1 h))) in
    (search rules, search (rules, told)))
