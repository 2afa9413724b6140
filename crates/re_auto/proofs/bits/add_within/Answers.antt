use Rattle.re_auto.proofs.{Prelude.{arith, ◌≡◌, get_or-set_same, get_or-set_other}, lemmas.RangeLemmas.added_within}
use Rattle.re_auto.proofs.bits.add_within.Goals as goal

pub returns-then-first-range-clause-added : goal.returns-then-first-range-clause-added
returns-then-first-range-clause-added c =
    let k = c.args.range.first in
    let old = c.args.into.now in
    added_within old c.args.row.now _ c.args.range c.requires.covers
    (λ j low high. let same : k ≡ j = omega arith in rw (← same) (get_or-set_same old k _ 0 (omega arith)))
    (λ j lt. get_or-set_other old k j _ 0 (λ same. omega arith))
    (λ j ge. get_or-set_other old k j _ 0 (λ same. omega arith))

pub returns-clause-added : goal.returns-clause-added
returns-clause-added c =
    added_within c.args.into.now c.args.row.now c.words.into c.args.range c.requires.covers
    (λ j low high. c.words.invariant.1 j low (omega arith)) c.words.invariant.2
    (λ j ge. c.words.invariant.3 j (let ordered = c.requires.covers.ordered in omega arith))
