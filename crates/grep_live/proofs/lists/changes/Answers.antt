use Rattle.grep_live.proofs.{Prelude.{refl, WriteFault}, lemmas.CatchLemmas.writes_all}
use Rattle.grep_live.proofs.lists.changes.Goals as goal

pub write_changes-requires : goal.write_changes-requires
write_changes-requires g c = rw c.marks.ensures.are c.marks.ensures.fit

pub returns-in-Err : goal.returns-in-Err
returns-in-Err g c =
    let old = c.args.session.now in
    let wrote = rw c.marks.ensures.are at c.in-Err.ensures in
    writes_all _ g.W.CountedWrite.contents g.W.CountedWrite.failures _ _ _ _ _ _ WriteFault _ c.marks.ensures.fit c.status-status.ensures wrote refl

pub returns : goal.returns
returns g c =
    let old = c.args.session.now in
    let wrote = rw c.marks.ensures.are at c.in-Ok.ensures in
    writes_all _ g.W.CountedWrite.contents g.W.CountedWrite.failures _ _ _ _ _ _ WriteFault _ c.marks.ensures.fit c.status-status.ensures wrote (refl, c.know_all.ensures)
