use Rattle.line_finds.proofs.{Prelude.{◌∙◌, Match, lowered_pair}, lemmas.MappedLemmas.{mapped_next, mapped_all}}
use Rattle.line_finds.proofs.matches.lower_each.Goals as goal

pub loop-pair-preserved : goal.loop-pair-preserved
loop-pair-preserved c =
    let none : Match = record { line = 0; number = 0 } in
    mapped_next (lowered_pair c.args.first c.args.by) c.args.pairs.now c.loop-pair.pair-index none c.loop-pair-test.true c.loop-pair.invariant c.lower.ensures

pub returns : goal.returns
returns c = c.loop-pair.invariant ∙ mapped_all (lowered_pair c.args.first c.args.by) c.args.pairs.now c.loop-pair.pair-index c.loop-pair-test.false
