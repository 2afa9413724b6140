use Rattle.grep_io.proofs.{Prelude.arith, lemmas.BufferLemmas.{part_sent, rows_make_room, rows_sent}}
use Rattle.grep_io.proofs.devices.buffered.Buffered.send_rows.Goals as goal

pub returns-clause-sent : goal.returns-clause-sent
returns-clause-sent g c =
    let ended = rw c.deref.ensures.value at c.in-Some.ensures in
    rw (← c.self.view_is) (rows_sent g.W.CountedWrite.contents g.W.CountedWrite.failures _ _ c.send_front-2.result ended c.send_front-2.ensures.sent)

pub returns-clause-room : goal.returns-clause-room
returns-clause-room g c = rows_make_room g.W.CountedWrite.contents g.W.CountedWrite.failures c.args.self.now _ c.send_front-2.result (returns-clause-sent g c)

pub returns-in_default-clause-sent : goal.returns-in_default-clause-sent
returns-in_default-clause-sent g c =
    let none = rw c.deref.ensures.value at c.in_default.ensures in
    rw (← c.self.view_is) (part_sent g.W.CountedWrite.contents g.W.CountedWrite.failures _ _ c.len-all.result c.send_front.result none (omega arith) c.send_front.ensures.sent)

pub returns-in_default-clause-room : goal.returns-in_default-clause-room
returns-in_default-clause-room g c = rows_make_room g.W.CountedWrite.contents g.W.CountedWrite.failures c.args.self.now _ c.send_front.result (returns-in_default-clause-sent g c)
