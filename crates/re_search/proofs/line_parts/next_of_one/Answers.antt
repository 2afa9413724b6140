use Rattle.{re_search.proofs.{Prelude.{◌∙◌, inl, refl, arith, length}, lemmas.LinePartsLaws.{none_later, parts_after, passed_right, stretch_steps, window_ends, window_known, window_steps}}, re_match.proofs.lemmas.{SameLaws.same_twice, WindowLaws.{from_place, part_later}}}
use Rattle.re_search.proofs.line_parts.next_of_one.Goals as goal

pub returns-in-Some-clause-reported : goal.returns-in-Some-clause-reported
returns-in-Some-clause-reported c =
    let i = c.stretches.invariant in
    part_later _ _ _ c.args.from c.stretches.at i.low i.later _ _ (c.in-Some.ensures _ _ i.right)

pub returns-in-Some-clause-right : goal.returns-in-Some-clause-right
returns-in-Some-clause-right c =
    let part = c.in-Some.ensures _ _ c.stretches.invariant.right in
    parts_after _ _ c.stretches.at c.in-Some.part.end _ (omega (arith, part.found.begins, part.found.not_empty)) c.stretches.invariant.right

pub returns-then-at-line-clause-reported : goal.returns-then-at-line-clause-reported
returns-then-at-line-clause-reported c = λ k l f.
    let i = c.stretches.invariant in
    omega (arith, none_later _ _ _ c.args.from c.stretches.at i.later _ _ _ (c.in_default.ensures _ _ i.right) c.seen.ensures c.max-at.ensures k l f, f.not_empty, f.on_line, c.if-at-line.true)

pub returns-in-Part-clause-reported : goal.returns-in-Part-clause-reported
returns-in-Part-clause-reported c =
    let i = c.stretches.invariant in
    let later = none_later _ _ _ c.args.from c.stretches.at i.later _ _ _ (c.in_default.ensures _ _ i.right) c.seen.ensures c.max-at.ensures in
    part_later _ _ _ c.args.from c.max-at.result (omega (arith, i.low, c.max-at.ensures)) later _ _ (rw i.same.same_expression at c.in-Part.ensures.reported)

pub returns-in-Part-clause-right : goal.returns-in-Part-clause-right
returns-in-Part-clause-right c = rw c.pass.ensures (passed_right _ _ c.in-Part.part.end c.in-Part.part.end _ (inl refl) c.in-Part.ensures.reported.found.on_line (omega arith))

pub returns-in-Part-clause-steps : goal.returns-in-Part-clause-steps
returns-in-Part-clause-steps c = λ first before.
    let f = c.in-Part.ensures.reported.found in
    rw c.pass.ensures (stretch_steps c.stretches.parts.seen c.max-at.result c.in-Part.part.end first _ _ (omega (arith, c.max-at.ensures, c.seen.ensures)) (omega (arith, f.begins, f.not_empty)) (c.stretches.invariant.steps first before) c.in-Part.ensures.steps.few)

pub stretches-preserved : goal.stretches-preserved
stretches-preserved c =
    let i = c.stretches.invariant in
    let same = i.same in
    let next = c.in-In.ensures.same in
    let is = rw same.same_expression at c.in-In.ensures.reported in
    let on = window_ends _ _ c.max-at.result c.in-In.window (omega arith) is in
    record {
      low = omega (arith, c.max-at.ensures, i.low);
      on_line = omega (arith, c.max-at.ensures, c.seen.ensures, i.on_line, i.right.on_line);
      later = none_later _ _ _ c.args.from c.stretches.at i.later _ _ _ (c.in_default.ensures _ _ i.right) c.seen.ensures c.max-at.ensures;
      right = record {
        on_line = omega (arith, c.look_at.ensures.seen, on.2);
        at_once = inl refl;
        are_ends = window_known _ _ c.max-at.result c.in-In.window (omega arith) is _ c.look_at.ensures.seen (rw (next.same_expression, same.same_expression) at c.look_at.ensures.right);
      };
      room = c.look_at.ensures.room ∙ i.room;
      same = same_twice c.look_at.ensures.same (same_twice next same);
      steps = λ first before.
          rw c.look_at.ensures.seen (window_steps c.stretches.parts.seen c.max-at.result c.in-In.window.start c.in-In.window.end _ first _ _ _ (omega (arith, c.max-at.ensures, c.seen.ensures)) on.1 is.0.0 is.1.0 (omega (arith, on.0)) (i.steps first before) c.in-In.ensures.steps.few c.look_at.ensures.steps.few);
    }

pub returns-in-Nothing-clause-reported : goal.returns-in-Nothing-clause-reported
returns-in-Nothing-clause-reported c = λ k l f.
    let i = c.stretches.invariant in
    let later = none_later _ _ _ c.args.from c.stretches.at i.later _ _ _ (c.in_default.ensures _ _ i.right) c.seen.ensures c.max-at.ensures in
    c.in-Nothing.ensures.reported k l (rw i.same.same_expression (from_place _ _ _ c.args.from c.max-at.result k l (later k l f) f))

pub returns-in-Nothing-clause-steps : goal.returns-in-Nothing-clause-steps
returns-in-Nothing-clause-steps c = λ first before.
    rw c.pass-in-Nothing.ensures (stretch_steps c.stretches.parts.seen c.max-at.result (length c.args.line.now) first _ _ (omega (arith, c.max-at.ensures, c.seen.ensures)) (omega arith) (c.stretches.invariant.steps first before) c.in-Nothing.ensures.steps.few)
