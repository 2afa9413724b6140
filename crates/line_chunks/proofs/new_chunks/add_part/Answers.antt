use Rattle.line_chunks.proofs.{Prelude.{arith, ap, ◌≡◌, ◌-◌, ◌<◌, [], inl, inr, cases_lt, length, get_or, get_or_past, chunks_of}, lemmas.{Pieces.adds_none, Sums.{chunk_at, length-chunks_of}}}
use Rattle.line_chunks.proofs.new_chunks.add_part.Goals as goal

pub returns-then-from-to : goal.returns-then-from-to
returns-then-from-to c =
    let lines = get_or (chunks_of c.args.entries.now) c.args.k [] in
    let zero : c.args.to - c.args.from ≡ 0 = omega arith in
    adds_none _ _ (rw zero)

pub returns : goal.returns
returns c =
    let es = c.args.entries.now in
    let inside : c.args.k < length es = elim (cases_lt c.args.k (length es)) [
      | inl h ↦ h
      | inr h ↦
          (let none = ap length (get_or_past (chunks_of es) c.args.k [] (omega (arith, length-chunks_of es))) in
          absurd (omega (arith, c.requires.within, c.if-from-to.false)))
    ] in
    rw (c.index-entries-k.is, ← chunk_at es c.args.k c.index-entries-k.result inside) at c.add_lines.ensures
