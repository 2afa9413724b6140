use Rattle.{grep_core.proofs.{Prelude.arith, lemmas.{OneLineLemmas.err_with, PassLemmas.{TakesAll-line, TakesFront-line}, PartsLemmas.{parts_none, parts_next, parts_done, parts_broken}}}, re_meter.proofs.lemmas.Adding.adds_none, re_search.proofs.lemmas.{LinePartsLaws.all_parts, KeptMatchers.{none_asked, same_over, as_many, still_alike}}}
use Rattle.grep_core.proofs.search.line.write_parts.Goals as goal

pub loop-part-init : goal.loop-part-init
loop-part-init g c = record {
  parts = parts_none _ _ _ _ _ _ _ (omega arith);
  room = rw c.begin.ensures.room c.requires.room;
  right = c.begin.ensures.right _ _ 0;
  steps = adds_none _ _ _;
  same = none_asked;
}

pub next_part-requires-clause-within : goal.next_part-requires-clause-within
next_part-requires-clause-within g c = c.loop-part.invariant.parts.on_line

pub next_part-requires-clause-alike : goal.next_part-requires-clause-alike
next_part-requires-clause-alike g c = still_alike c.loop-part.invariant.same c.requires.alike

pub next_part-requires-clause-right : goal.next_part-requires-clause-right
next_part-requires-clause-right g c = rw c.loop-part.invariant.same.same_expressions c.loop-part.invariant.right

pub write_part-requires : goal.write_part-requires
write_part-requires g c =
    let found = c.in-Some.ensures.reported.found in
    record { in_order = omega (arith, found.not_empty); on_line = found.on_line }

pub loop-part-smaller : goal.loop-part-smaller
loop-part-smaller g c =
    let found = c.in-Some.ensures.reported.found in
    omega (arith, found.not_empty, found.on_line, found.begins)

pub returns-in_err-write_part-clause-err : goal.returns-in_err-write_part-clause-err
returns-in_err-write_part-clause-err g c =
    let same = c.loop-part.invariant.same in
    let reported = rw same.same_expressions at c.in-Some.ensures.reported in
    let out = c.in_err-write_part.ensures in
    err_with c.from_residual.result (parts_broken _ _ _ _ _ _ c.requires.asked _ _ _ c.loop-part.invariant.parts reported
    (TakesFront-line _ _ _ _ _ out)
    out.counted)

pub loop-part-preserved : goal.loop-part-preserved
loop-part-preserved g c =
    let same = c.loop-part.invariant.same in
    let reported = rw same.same_expressions at c.in-Some.ensures.reported in
    let steps = rw (as_many same) at c.in-Some.ensures.steps in
    record {
      parts =
          parts_next _ _ _ _ _ _ _ _ _ c.loop-part.invariant.parts reported
          (TakesAll-line _ _ _ _ _ c.in_ok-write_part.ensures);
      room = rw c.in-Some.ensures.room c.loop-part.invariant.room;
      right = rw same.same_expressions at c.in-Some.ensures.right;
      steps = steps c.args.meter.now c.loop-part.invariant.steps;
      same = same_over c.in-Some.ensures.same_matchers same;
    }

pub returns-clause-ok : goal.returns-clause-ok
returns-clause-ok g c =
    let same = c.loop-part.invariant.same in
    let reported = rw same.same_expressions at c.in_default.ensures.reported in
    parts_done _ _ _ _ _ _ c.requires.asked c.loop-part.invariant.parts reported

pub returns-in_err-write_part-clause-same : goal.returns-in_err-write_part-clause-same
returns-in_err-write_part-clause-same g c = same_over c.in-Some.ensures.same_matchers c.loop-part.invariant.same

pub returns-clause-same : goal.returns-clause-same
returns-clause-same g c = same_over c.in_default.ensures.same_matchers c.loop-part.invariant.same

pub returns-in_err-write_part-clause-steps : goal.returns-in_err-write_part-clause-steps
returns-in_err-write_part-clause-steps g c =
    let i = c.loop-part.invariant in
    let steps = rw (as_many i.same) at c.in-Some.ensures.steps in
    all_parts _ _ _ c.args.meter.now c.next_part.new.meter c.in-Some.ensures.seen (steps c.args.meter.now i.steps)

pub returns-clause-steps : goal.returns-clause-steps
returns-clause-steps g c =
    let i = c.loop-part.invariant in
    let steps = rw (as_many i.same) at c.in_default.ensures.steps in
    all_parts _ _ _ c.args.meter.now c.next_part.new.meter c.in_default.ensures.seen (steps c.args.meter.now i.steps)
