use Rattle.line_marks.proofs.{Prelude.{◌+◌, length, ap, rules, arith, length-append, length-drop, length-take, Stretch}, lemmas.RoomLemmas.{led_length, put_at}}
use Rattle.line_marks.proofs.room.put.Goals as goal

pub insert-requires : goal.insert-requires
insert-requires c = (search rules, omega (arith, length-append {A = Stretch}, length-take {A = Stretch}, length-drop {A = Stretch}, led_length, ap length c.take_out.ensures, ap length c.lower.ensures))

pub returns : goal.returns
returns c =
    rw (c.insert.ensures.items, c.take_out.ensures, c.lower.ensures) (put_at c.args.first (c.args.first + c.args.all.many) c.args.stretches.now.items _ _ (omega arith) c.requires.within)
