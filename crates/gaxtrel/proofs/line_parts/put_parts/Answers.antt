use Rattle.{gaxtrel.proofs.{Prelude.arith, ArrayLemmas.{all_put, none_put, one_put}}, re_meter.proofs.lemmas.Adding.adds_none, re_search.proofs.lemmas.{KeptMatchers.{as_many, none_asked, same_over, still_alike}, LinePartsLaws.all_parts}}
use Rattle.gaxtrel.proofs.line_parts.put_parts.Goals as goal

pub loop-part-init : goal.loop-part-init
loop-part-init c = record {
  found = none_put;
  few = omega arith;
  on_line = c.requires.within;
  room = rw c.begin.ensures.room c.requires.room;
  right = c.begin.ensures.right _ _ _;
  same = none_asked;
  steps = adds_none _ _ _;
}

pub next_part-requires-clause-within : goal.next_part-requires-clause-within
next_part-requires-clause-within c = c.loop-part.invariant.on_line

pub next_part-requires-clause-alike : goal.next_part-requires-clause-alike
next_part-requires-clause-alike c = still_alike c.loop-part.invariant.same c.requires.alike

pub next_part-requires-clause-right : goal.next_part-requires-clause-right
next_part-requires-clause-right c = rw c.loop-part.invariant.same.same_expressions c.loop-part.invariant.right

pub loop-part-smaller : goal.loop-part-smaller
loop-part-smaller c =
    let found = c.in-Some.ensures.reported.found in
    omega (arith, found.not_empty, found.on_line, found.begins)

pub loop-part-preserved : goal.loop-part-preserved
loop-part-preserved c =
    let i = c.loop-part.invariant in
    let part = rw i.same.same_expressions at c.in-Some.ensures.reported in
    record {
      found = one_put i.found (λ more are. (part, are)) (rw c.part_of.ensures at c.put.ensures);
      few = omega (arith, i.few, part.found.begins, part.found.not_empty);
      on_line = part.found.on_line;
      room = rw c.next_part.ensures.room i.room;
      right = rw i.same.same_expressions at c.in-Some.ensures.right;
      same = same_over c.next_part.ensures.same_matchers i.same;
      steps = (rw (as_many i.same) at c.in-Some.ensures.steps) c.args.meter.now i.steps;
    }

pub returns-clause-put : goal.returns-clause-put
returns-clause-put c =
    let i = c.loop-part.invariant in
    all_put i.found (rw i.same.same_expressions at c.in_default.ensures.reported)

pub returns-clause-steps : goal.returns-clause-steps
returns-clause-steps c =
    let i = c.loop-part.invariant in
    all_parts _ _ _ _ _ c.in_default.ensures.seen ((rw (as_many i.same) at c.in_default.ensures.steps) c.args.meter.now i.steps)

pub returns-clause-same : goal.returns-clause-same
returns-clause-same c = same_over c.next_part.ensures.same_matchers c.loop-part.invariant.same
