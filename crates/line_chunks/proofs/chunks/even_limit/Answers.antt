use Rattle.line_chunks.proofs.{Prelude.{arith, cases_lt, inl, inr}, lemmas.Pieces.half_full}
use Rattle.line_chunks.proofs.chunks.even_limit.Goals as goal

pub returns-clause-half : goal.returns-clause-half
returns-clause-half c = elim (cases_lt c.saturating_add.result c.args.limit) [
  | inl less ↦
      (let half = half_full c.args.bytes c.args.limit c.saturating_add-chunks.result c.saturating_add.result (omega arith) (omega arith) (omega arith) in
      omega arith)
  | inr enough ↦ omega arith
]
