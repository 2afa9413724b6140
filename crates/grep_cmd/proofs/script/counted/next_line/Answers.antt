use Rattle.grep_cmd.proofs.Prelude.{Result, Bool, Err, subst, ap, ReadFault, NextIs}
use Rattle.grep_cmd.proofs.script.counted.next_line.Goals as goal

pub returns-in-Err-Device-clause-next : goal.returns-in-Err-Device-clause-next
returns-in-Err-Device-clause-next g c =
    λ reader handed s. subst (λ (r : Result Bool ReadFault). NextIs g.R.CountedRead.remaining g.R.CountedRead.failures reader handed c.next_numbered.new.self r) (ap Err c.in-Err-Device.field-0-is) (c.in-Err-Device.ensures.next reader handed s)

pub returns-in-Err-Memory-clause-next : goal.returns-in-Err-Memory-clause-next
returns-in-Err-Memory-clause-next g c =
    λ reader handed s. subst (λ (r : Result Bool ReadFault). NextIs g.R.CountedRead.remaining g.R.CountedRead.failures reader handed c.next_numbered.new.self r) (ap Err c.in-Err-Memory.field-0-is) (c.in-Err-Memory.ensures.next reader handed s)
