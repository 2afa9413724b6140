use Rattle.line_chunks.proofs.{Prelude.{◌≡◌, ◌+◌, ◌-◌, length, arith, ◌∙◌, sym, chunks_of, new_line}, lemmas.{Added.{with_last, with_new, with_first, room_last, made_ok}, Sums.length-chunks_of}, chunks.add_line.Goals.{else-count-gt0-via-then-count-gt0+else-takes, else-count-gt0-via-else-count-gt0}}
use Rattle.line_chunks.proofs.chunks.add_line.Goals as goal

pub returns-then-takes-clause-ok : goal.returns-then-takes-clause-ok
returns-then-takes-clause-ok c =
    let es = c.args.entries.now.items in
    let n = c.len-count.result in
    let many = c.len-count.ensures ∙ c.args.entries.now.ok.0 in
    let room = sym (room_last c.args.limit es c.args.line.now many c.if-count-gt0.true c.index.ensures) ∙ sym c.takes.ensures ∙ c.if-takes.true in
    made_ok c.add_to_last.result (chunks_of c.add_to_last.new.entries.items) _ _ c.add_to_last.ensures.ok (with_last c.args.limit (n - 1) (chunks_of es) (new_line c.args.line.now) (omega (arith, length-chunks_of es)) room)

pub returns-clause-ok : goal.returns-clause-ok
returns-clause-ok c =
    let es = c.args.entries.now.items in
    let n = c.len-count.result in
    let many = c.len-count.ensures ∙ c.args.entries.now.ok.0 in
    made_ok c.add_chunk.result (chunks_of c.add_chunk.new.entries.items) _ _ c.add_chunk.ensures.ok (elim c.else-count-gt0.branch [
      | else-count-gt0-via-then-count-gt0+else-takes w ↦
          let last : n - 1 + 1 ≡ length (chunks_of es) = omega (arith, length-chunks_of es) in
          let full = sym (room_last c.args.limit es c.args.line.now many w.if-count-gt0.true w.index.ensures) ∙ sym w.takes.ensures ∙ w.if-takes.false in
          with_new c.args.limit (n - 1) (chunks_of es) (new_line c.args.line.now) last full
      | else-count-gt0-via-else-count-gt0 w ↦
          with_first c.args.limit es (new_line c.args.line.now) many (omega arith)
    ])
