use Rattle.line_marks.proofs.{Prelude.{refl, arith}, lemmas.TakeLemmas.{few_both, has_lead, near_next, near_none, takes_next, takes_wider}}
use Rattle.line_marks.proofs.touched.taken.Goals as goal

pub loop-k-init : goal.loop-k-init
loop-k-init c = (refl, takes_wider _ c.requires.in_order c.begun-all.ensures)

pub led_by-next-requires : goal.led_by-next-requires
led_by-next-requires c = has_lead c.args.start c.args.end c.args.stretches.now _ c.loop-k.invariant.1 c.loop-k.k _ c.loop-k.invariant.0 c.loop-k-test.true

pub joined-one-requires : goal.joined-one-requires
joined-one-requires c = omega (arith, few_both c.args.start _ _ _ c.loop-k.invariant.1 c.loop-k.k _ c.loop-k.invariant.0 c.loop-k-test.true _ c.led_by-next.ensures c.requires.counted)

pub loop-k-preserved : goal.loop-k-preserved
loop-k-preserved c =
    (refl, takes_next _ _ _ _ c.loop-k.invariant.1 _ _ c.loop-k.invariant.0 c.loop-k-test.true _ c.led_by-next.ensures (omega arith) c.joined-one.ensures)

pub returns-then-more-next-clause-near : goal.returns-then-more-next-clause-near
returns-then-more-next-clause-near c =
    near_next c.args.start _ _ _ c.loop-k.invariant.1 c.loop-k.k _ c.loop-k.invariant.0 c.loop-k-test.true _ c.led_by-next.ensures (omega arith)

pub returns-clause-near : goal.returns-clause-near
returns-clause-near c = near_none c.args.start _ _ _ c.loop-k.invariant.1 c.loop-k.invariant.0 c.loop-k-test.false
