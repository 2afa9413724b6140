use Rattle.line_chunks.proofs.{Prelude.{arith, ◌+◌, ◌≡◌}, lemmas.Edits.filled_both}
use Rattle.line_chunks.proofs.chunks.remove.Goals as goal

pub returns-clause-filled : goal.returns-clause-filled
returns-clause-filled c = λ filled.
    let first = c.remove_lines-first.result in
    let v = c.remove_lines-first.new.entries in
    let next : c.saturating_add.result ≡ first + 1 = omega arith in
    let far : c.saturating_add.result + 1 ≡ first + 2 = omega arith in
    let a = c.remove_lines-first.ensures.filled filled in
    let b = c.drop_empty.ensures.filled first (omega arith) a.0
    (rw far a.1) in
    let d = c.drop_empty-2.ensures.filled first (omega arith) b.0
    (rw next at b.1) in
    rw c.sum_from.ensures.chunks (filled_both _ first d.0 d.1)
