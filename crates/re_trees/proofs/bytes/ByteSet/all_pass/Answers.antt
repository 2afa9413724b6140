use Rattle.re_trees.proofs.{Prelude.{true, members}, lemmas.SetBits.{was, one_passes, all_passed}}
use Rattle.re_trees.proofs.bytes.ByteSet.all_pass.Goals as goal

pub loop-byte-preserved : goal.loop-byte-preserved
loop-byte-preserved g c =
    let left = c.in-Some.ensures.steps.1 in (
      tt,
      tt,
      c.requires,
      (λ b h. c.loop-byte.invariant.3 b (was (members c.loop-byte.byte-iterator) (members c.next.new.self) c.in-Some.byte b left h)),
      one_passes (λ b. goal.F-post g c.args.passes b true) (members c.args.self) (members c.loop-byte.byte-iterator) (members c.next.new.self) c.in-Some.byte left c.if-not-passes.ensures c.loop-byte.invariant.4,
    )

pub returns-then-not-passes : goal.returns-then-not-passes
returns-then-not-passes g c = (c.in-Some.byte, c.loop-byte.invariant.3 c.in-Some.byte c.in-Some.ensures.steps.0, c.if-not-passes.ensures)

pub returns : goal.returns
returns g c = all_passed (λ b. goal.F-post g c.args.passes b true) (members c.args.self) (members c.loop-byte.byte-iterator) c.in-None.ensures.steps c.loop-byte.invariant.4
