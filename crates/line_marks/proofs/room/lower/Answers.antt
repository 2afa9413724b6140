use Rattle.line_marks.proofs.{Prelude.arith, lemmas.RoomLemmas.lowered_at}
use Rattle.line_marks.proofs.room.lower.Goals as goal

pub returns : goal.returns
returns c = cc (lowered_at c.args.k c.args.stretches.now.items c.args.lead c.remove-next.result (omega arith))
