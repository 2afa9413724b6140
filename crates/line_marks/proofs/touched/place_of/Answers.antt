use Rattle.line_marks.proofs.{Prelude.{length, drop_all, take_all, arith}, lemmas.PlaceLemmas.{passes_more, reached_at}}
use Rattle.line_marks.proofs.touched.place_of.Goals as goal

pub loop-many-preserved : goal.loop-many-preserved
loop-many-preserved c =
    passes_more _ _ _ _ _ _ c.loop-many-test.true c.loop-many.invariant c.need-later.ensures c.if-later-eq0.false

pub returns-then-later-eq0-clause-reached : goal.returns-then-later-eq0-clause-reached
returns-then-later-eq0-clause-reached c =
    reached_at _ _ _ _ c.loop-many-test.true c.need-later.ensures c.if-later-eq0.true

pub returns-clause-passes : goal.returns-clause-passes
returns-clause-passes c =
    rw (take_all (length c.args.stretches.now) c.args.stretches.now (omega arith)) (rw (take_all c.loop-many.many c.args.stretches.now c.loop-many-test.false) at c.loop-many.invariant)

pub returns-clause-reached : goal.returns-clause-reached
returns-clause-reached c = rw (drop_all (length c.args.stretches.now) c.args.stretches.now (omega arith)) tt
