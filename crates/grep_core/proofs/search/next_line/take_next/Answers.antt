use Rattle.grep_core.proofs.Prelude.{Bool, Result, Err, ap, sym, subst, ReadFault, NextIs}
use Rattle.grep_core.proofs.search.next_line.take_next.Goals as goal

pub returns-in-Ok-true : goal.returns-in-Ok-true
returns-in-Ok-true g c = λ reader handed h.
    let next = rw c.in-Ok-true.field-0-test at c.in-Ok-true.ensures.next in
    let before = rw c.in-Ok-true.field-0-test at c.in-Ok-true.ensures.before in
    (next reader handed h, c.in-Ok-true.ensures.held, c.in_ok-send_before_read.ensures, before reader handed h)

pub returns-in-Ok-false : goal.returns-in-Ok-false
returns-in-Ok-false g c = λ reader handed h.
    let next = rw c.in-Ok-false.field-0-test at c.in-Ok-false.ensures.next in
    (next reader handed h, c.in_ok-send_before_read.ensures)

pub returns-in-Err-Device : goal.returns-in-Err-Device
returns-in-Err-Device g c = λ reader handed h.
    let next = subst (λ (r : Result Bool ReadFault). NextIs g.R.CountedRead.remaining g.R.CountedRead.failures reader handed c.next_numbered.new.self r) (ap Err c.in-Err-Device.field-0-is) (c.in-Err-Device.ensures.next reader handed h) in
    (next, c.in_ok-send_before_read.ensures)

pub returns-in-Err-Memory : goal.returns-in-Err-Memory
returns-in-Err-Memory g c = λ reader handed h.
    let next = subst (λ (r : Result Bool ReadFault). NextIs g.R.CountedRead.remaining g.R.CountedRead.failures reader handed c.next_numbered.new.self r) (ap Err c.in-Err-Memory.field-0-is) (c.in-Err-Memory.ensures.next reader handed h) in
    (next, c.in-Err-Memory.ensures.held, sym c.number.ensures, c.in_ok-send_before_read.ensures)
