use Rattle.line_finds.proofs.lemmas.PieceLemmas.{are_none, are_lists, seen_as}
use Rattle.line_finds.proofs.pieces.Pieces.with_room.Goals as goal

pub invariant_of-result : goal.invariant_of-result
invariant_of-result g c = are_lists (are_none c.in_ok-items.ensures.items c.new.ensures.items)

pub returns : goal.returns
returns g c = seen_as (are_none c.in_ok-items.ensures.items c.new.ensures.items)
