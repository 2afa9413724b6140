use Rattle.re_match.proofs.{Prelude.{◌-◌, ◌∙◌, arith, expression_of, past}, lemmas.{StepSums.adds_on, WindowLaws.{border_within, first_part, from_place, later_on, part_later}}}
use Rattle.re_match.proofs.cached.CachedLineMatch.find.Goals as goal

pub windows-preserved : goal.windows-preserved
windows-preserved c =
    let e = expression_of c.args.self.now.tree in let held = c.windows.invariant in
    let said = rw held.same at c.in-In.ensures in
    record {
      high = omega arith;
      same = c.find_in.ensures.same ∙ held.same;
      later = rw c.place_after-place.ensures (later_on e _ _ c.windows.place _ _ held.later said.0.0 said.0.1.1 (rw held.same at c.in_default.ensures.found) said.0.1.0 (border_within e c.args.line.now c.in-In.window.end said.0.1.1));
      steps = adds_on {first = c.in-In.window.start - c.args.from} {first_bytes = past c.args.line.now c.in-In.window.end - c.args.from}
          (adds_on held.steps said.1.few (omega arith) (omega arith)) c.find_in.ensures.steps.few (omega arith) (omega arith);
    }

pub returns-in-Part-clause-reported : goal.returns-in-Part-clause-reported
returns-in-Part-clause-reported c =
    let held = c.windows.invariant in
    part_later _ _ _ c.args.from c.windows.place held.later.0 held.later.1 _ _ (rw held.same at c.in-Part.ensures.0)

pub returns-in-Part-clause-steps : goal.returns-in-Part-clause-steps
returns-in-Part-clause-steps c =
    let low = c.windows.invariant.later.0 in let on = c.in-Part.ensures.0.found.on_line in
    let some = c.in-Part.ensures.0.found.not_empty in let begins = c.in-Part.ensures.0.found.begins in
    adds_on c.windows.invariant.steps c.in-Part.ensures.1.few (omega arith) (omega arith)

pub returns-in-Nothing-clause-reported : goal.returns-in-Nothing-clause-reported
returns-in-Nothing-clause-reported c = λ i j f. (rw c.windows.invariant.same at c.in-Nothing.ensures.0) i j (from_place _ _ _ c.args.from c.windows.place i j (c.windows.invariant.later.1 i j f) f)

pub returns-in-Nothing-clause-steps : goal.returns-in-Nothing-clause-steps
returns-in-Nothing-clause-steps c = adds_on c.windows.invariant.steps c.in-Nothing.ensures.1.few (omega arith) (omega arith)

pub returns-in-Some-clause-reported : goal.returns-in-Some-clause-reported
returns-in-Some-clause-reported c =
    let held = c.windows.invariant in let said = rw held.same at c.in-In.ensures in
    first_part _ _ _ c.windows.place _ _ held.later said.0.0 said.0.1.1 _ (rw held.same at c.in-Some.ensures.found)

pub returns-in-Some-clause-steps : goal.returns-in-Some-clause-steps
returns-in-Some-clause-steps c =
    let said = rw c.windows.invariant.same at c.in-In.ensures in
    let within = border_within (expression_of c.args.self.now.tree) c.args.line.now c.in-In.window.end said.0.1.1 in
    adds_on {first = c.in-In.window.start - c.args.from} {first_bytes = past c.args.line.now c.in-In.window.end - c.args.from}
    (adds_on c.windows.invariant.steps said.1.few (omega arith) (omega arith)) c.find_in.ensures.steps.few (omega arith) (omega arith)

pub returns-clause-reported : goal.returns-clause-reported
returns-clause-reported c = λ i j f. let low = c.windows.invariant.later.1 i j f in omega arith
