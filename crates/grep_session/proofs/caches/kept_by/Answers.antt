use Rattle.grep_session.proofs.{Prelude.{◌≡◌, length, arith}, lemmas.RoomLemmas.room_at}
use Rattle.grep_session.proofs.caches.kept_by.Goals as goal

pub loop-matcher-preserved : goal.loop-matcher-preserved
loop-matcher-preserved c =
    let room = room_at c.args.each c.args.matchers.now c.loop-matcher.matcher-index c.matcher-item.result c.loop-matcher-test.true c.matcher-item.is c.requires in
    omega arith

pub returns : goal.returns
returns c =
    let all : c.loop-matcher.matcher-index ≡ length c.args.matchers.now = omega arith in
    rw all at c.loop-matcher.invariant
