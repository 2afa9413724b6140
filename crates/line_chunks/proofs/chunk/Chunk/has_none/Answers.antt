use Rattle.line_chunks.proofs.{Prelude.{arith, eqb-true}, lemmas.NextLines.{none_matched, all_matched}}
use Rattle.line_chunks.proofs.chunk.Chunk.has_none.Goals as goal

pub returns-then-matched : goal.returns-then-matched
returns-then-matched c = λ none k h. cc (none_matched c.args.self.now (omega (arith, eqb-true c.hits.result 0 none)) k h, c.if-matched.true)

pub returns : goal.returns
returns c = λ all k h. cc (all_matched c.args.self.now (omega (arith, eqb-true c.hits-2.result c.len.result all)) k h, c.if-matched.false)
