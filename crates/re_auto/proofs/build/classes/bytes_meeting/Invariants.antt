use Rattle.re_auto.proofs.Prelude.{◌≡◌, ℕ, ◌<◌, false, IsTrue, length, get_or, ◌↔◌, Has, row_of}
use Rattle.re_auto.proofs.build.classes.bytes_meeting.Given as goal

abbrev pub invariant-bytes : goal.invariant-bytes
invariant-bytes l =
    (length l.marks ≡ 256)
    × ((k : ℕ) → k < l.c → IsTrue (get_or l.marks k false) ↔ ((q : ℕ) × Has l.set q × Has (row_of l.rows l.width k) q))
