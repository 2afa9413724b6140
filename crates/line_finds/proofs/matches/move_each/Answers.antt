use Rattle.line_finds.proofs.{Prelude.{◌∙◌, Match, moved_pair}, lemmas.MappedLemmas.{mapped_next, mapped_all}}
use Rattle.line_finds.proofs.matches.move_each.Goals as goal

pub loop-pair-preserved : goal.loop-pair-preserved
loop-pair-preserved c =
    let none : Match = record { line = 0; number = 0 } in
    mapped_next (moved_pair c.args.from c.args.to) c.args.pairs.now c.loop-pair.pair-index none c.loop-pair-test.true c.loop-pair.invariant c.move_up.ensures

pub returns : goal.returns
returns c = c.loop-pair.invariant ∙ mapped_all (moved_pair c.args.from c.args.to) c.args.pairs.now c.loop-pair.pair-index c.loop-pair-test.false
