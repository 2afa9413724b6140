use Rattle.grep_core.proofs.{Prelude.{◌∙◌, Err, refl, ap}, lemmas.WrittenLemmas.{TakesAll-written, TakesFront-written}}
use Rattle.grep_core.proofs.search.file.end_source.Goals as goal

pub returns-in-Err-Write : goal.returns-in-Err-Write
returns-in-Err-Write g c =
    let known = rw c.in-Err-Write.is at c.in-Err-Write.field-0-is in
    rw (c.in-Err-Write.is ∙ ap Err known) (refl, refl, refl)

pub returns-in-Err-Memory : goal.returns-in-Err-Memory
returns-in-Err-Memory g c =
    let known = rw c.in-Err-Memory.is at c.in-Err-Memory.field-0-is in
    rw (c.in-Err-Memory.is ∙ ap Err known) (refl, refl, refl)

pub returns-in-Err : goal.returns-in-Err
returns-in-Err g c = rw c.in-Ok.is (TakesFront-written _ c.in-Err.ensures, c.in-Err.ensures.counted, refl)

pub returns-in-Ok-report_fault : goal.returns-in-Ok-report_fault
returns-in-Ok-report_fault g c =
    rw c.in-Ok.is
    (refl, TakesAll-written _ c.in-Ok-end_output.ensures, TakesAll-written _ c.in-Ok-report_fault.ensures)

pub returns-in-Err-report_fault : goal.returns-in-Err-report_fault
returns-in-Err-report_fault g c =
    rw c.in-Ok.is
    (TakesAll-written _ c.in-Ok-end_output.ensures, TakesFront-written _ c.in-Err-report_fault.ensures, c.in-Err-report_fault.ensures.counted)
