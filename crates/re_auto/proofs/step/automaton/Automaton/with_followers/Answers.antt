use Rattle.re_auto.proofs.{Prelude.{arith, inl, rfl, expression_of, InWord, part_of}, lemmas.{BitLemmas.{one_added, none_left, chained, one_of, in_either}, WordLemmas.bounded}}
use Rattle.re_auto.proofs.step.automaton.Automaton.with_followers.Goals as goal

pub following-requires : goal.following-requires
following-requires c = c.requires.small _ (c.bits.invariant.0 _ c.take_lowest-p.ensures.small c.take_lowest-p.ensures.held)

pub bits-preserved : goal.bits-preserved
bits-preserved c =
    let low = c.take_lowest-p.ensures in (
      (λ b lt h. c.bits.invariant.0 b lt ((low.rest b lt).1 (inl h))),
      λ q. chained (one_added (InWord c.bits.next q) _ (λ b. (part_of (expression_of c.args.self.now) 0).follow b q) c.bits.left _ c.take_lowest-p.result low.small (chained (in_either _ _ q)
          (one_of rfl (chained (c.only_word-next.ensures q) (c.following.ensures.1 q)))) low.rest) (c.bits.invariant.1 q),
    )

pub returns : goal.returns
returns c = λ q. chained (none_left (InWord c.bits.next q) _ (λ b. (part_of (expression_of c.args.self.now) 0).follow b q) c.bits.left (omega arith) (c.bits.invariant.1 q))
    (one_of rfl (bounded _ (λ b. (part_of (expression_of c.args.self.now) 0).follow b q) c.ranges.from.fits))
