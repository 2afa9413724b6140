use Rattle.{re_match.{specs.Working.Aheads.PassesAtLeast, proofs.{Prelude.{subst, sym, ◌-◌, ◌≤◌, length, inl, refl, arith, past}, lemmas.StepSums.{look_and_built, passes_all}}}, re_meter.proofs.lemmas.Adding.{adds_passed, adds_within, only_passed}}
use Rattle.re_match.proofs.strings.Look.next_part.Goals as goal

pub returns-then-beyond-bytes-clause-reported : goal.returns-then-beyond-bytes-clause-reported
returns-then-beyond-bytes-clause-reported c =
    let found = c.in-Some.ensures.reported.found in
    rw c.rest_of.ensures ((found.begins, c.in-Some.ensures.reported.earliest), (omega (arith, found.not_empty, found.on_line), inl refl))

pub returns-then-beyond-bytes-clause-steps : goal.returns-then-beyond-bytes-clause-steps
returns-then-beyond-bytes-clause-steps c =
    let found = c.in-Some.ensures.reported.found in
    let most = past c.args.line.now (length c.args.line.now) - c.args.from in
    rw c.rest_of.ensures (record {
      few = adds_within 0 (c.in-Some.part.start - c.args.from) most most _ _ (omega arith) (omega arith)
          (adds_passed 0 (c.in-Some.part.end - c.args.from) most c.min.result _ _ _ (omega (arith, c.min.ensures, found.begins, found.not_empty, found.on_line)) (only_passed (c.in-Some.part.end - c.args.from) (c.in-Some.part.end - c.args.from) _ _ (omega arith) c.add_passed-2.ensures) c.add_passed-then-beyond-bytes.ensures);
      all = omega (arith, passes_all (c.in-Some.part.start - c.args.from) (c.in-Some.part.end - c.args.from) _ (omega (arith, found.not_empty)) c.add_passed-2.ensures, passes_all 0 c.min.result _ (omega arith) c.add_passed-then-beyond-bytes.ensures);
    })

pub returns-clause-steps : goal.returns-clause-steps
returns-clause-steps c =
    record {
      few = look_and_built _ _ _ _ _ _ (omega arith) (omega arith) c.add_passed-2.ensures c.add_built.ensures;
      all = rw c.add_built.ensures (passes_all (c.in-Some.part.start - c.args.from) (c.in-Some.part.end - c.args.from) _ (omega (arith, c.in-Some.ensures.reported.found.not_empty)) c.add_passed-2.ensures);
    }
