use Rattle.grep_live.proofs.{Prelude.arith, lemmas.NumberLemmas.counted_between}
use Rattle.grep_live.proofs.hits.count_hits.Goals as goal

pub returns : goal.returns
returns c =
    let s = c.args.stretch in
    λ es meant hits are.
    counted_between es c.args.session.now.inputs s.k s.from s.to c.hits_before-before.result c.hits_before.result c.saturating_sub.result c.requires.in_order (c.hits_before-before.ensures es meant) (c.hits_before.ensures es meant) (omega (arith, c.saturating_sub.ensures)) hits are
