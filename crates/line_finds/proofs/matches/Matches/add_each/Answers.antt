use Rattle.line_finds.proofs.lemmas.PairLaws.{added_one}
use Rattle.line_finds.proofs.matches.Matches.add_each.Goals as goal

pub loop-pair-preserved : goal.loop-pair-preserved
loop-pair-preserved c = added_one c.args.at c.args.from c.args.to c.args.self.now _ _ c.deref-pair-items.result.now c.loop-pair.pair-index c.loop-pair-test.true c.loop-pair.invariant (c.in_ok-add_one.ensures.ok)
