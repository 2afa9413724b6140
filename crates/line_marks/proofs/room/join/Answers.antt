use Rattle.line_marks.proofs.{Prelude.arith, lemmas.RoomLemmas.{few_joined, joined_lose}}
use Rattle.line_marks.proofs.room.join.Goals as goal

pub joined-one-requires : goal.joined-one-requires
joined-one-requires c = omega (arith, few_joined c.args.k c.requires.after c.requires.within c.remove-next.ensures.items c.remove-next.ensures.value c.remove-before.ensures.value c.requires.counted)

pub returns-clause-loses : goal.returns-clause-loses
returns-clause-loses c =
    rw (c.insert.ensures.items, c.joined-one.ensures, c.remove-before.ensures.items) (joined_lose c.args.k c.requires.after c.requires.within c.remove-next.ensures.items c.remove-next.ensures.value c.remove-before.ensures.value)
