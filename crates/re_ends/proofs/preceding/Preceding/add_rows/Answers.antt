use Rattle.{re_ends.proofs.Prelude.{arith, ◌+◌, ◌*◌, ◌∙◌, inl, refl, Has, part_of}, re_auto.proofs.lemmas.BitLemmas.{one_added, none_left, chained}}
use Rattle.re_ends.proofs.preceding.Preceding.add_rows.Goals as goal

pub bits-init : goal.bits-init
bits-init c = record { len = refl; among = λ b lt h. h; covers = c.requires.covers; added = λ e p made. ((λ h. h), (λ h. h)) }

pub bits-preserved : goal.bits-preserved
bits-preserved c =
    let low = c.take_lowest-bit.ensures in
    let inv = c.bits.invariant in
    record {
      len = c.add_row-covering.ensures.len ∙ inv.len;
      among = λ b lt h. inv.among b lt ((low.rest b lt).1 (inl h));
      covers = c.add_row-covering.ensures.covers;
      added = λ e p made. chained
          (one_added (Has c.bits.set p) (Has c.add_row-covering.new.set p) (λ b. (part_of e 0).follow p (c.args.k * 64 + b))
          c.bits.left _ c.take_lowest-bit.result low.small (c.add_row-covering.ensures.added e p made) low.rest)
          (inv.added e p made);
    }

pub add_row-covering-requires-clause-made : goal.add_row-covering-requires-clause-made
add_row-covering-requires-clause-made c =
    let low = c.take_lowest-bit.ensures in
    let (e, made, small, len) = c.requires.made in
    (e, made, small _ low.small (c.bits.invariant.among _ low.small low.held), c.bits.invariant.len ∙ len)

pub returns-clause-added : goal.returns-clause-added
returns-clause-added c = λ e p made.
    none_left (Has c.bits.set p) _ (λ b. (part_of e 0).follow p (c.args.k * 64 + b)) c.bits.left (omega arith) (c.bits.invariant.added e p made)
