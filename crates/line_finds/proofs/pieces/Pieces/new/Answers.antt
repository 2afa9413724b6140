use Rattle.line_finds.proofs.lemmas.PieceLemmas.{are_none, are_lists, seen_as}
use Rattle.line_finds.proofs.pieces.Pieces.new.Goals as goal

pub invariant_of-result : goal.invariant_of-result
invariant_of-result g c = are_lists (are_none c.new.ensures.items c.new-2.ensures.items)

pub returns : goal.returns
returns g c = seen_as (are_none c.new.ensures.items c.new-2.ensures.items)
