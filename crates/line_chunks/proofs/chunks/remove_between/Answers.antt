use Rattle.line_chunks.proofs.{Prelude.{arith, ◌+◌, chunks_of}, lemmas.{Joins.between, Edits.chunks_of-without, Sums.length-chunks_of}}
use Rattle.line_chunks.proofs.chunks.remove_between.Goals as goal

pub returns-clause-chunks : goal.returns-clause-chunks
returns-clause-chunks c = between (chunks_of c.args.entries.now.items) _ _ _ c.args.first c.args.before c.args.last c.args.after c.size_at-size.result c.requires.in_order (omega (arith, length-chunks_of c.args.entries.now.items)) c.remove_at.ensures.chunks (cc (c.size_at-size.ensures, c.deref.ensures.value)) c.remove_at-2.ensures.chunks (chunks_of-without c.remove_at-2.new.entries.items (c.args.first + 1) c.args.last c.remove_chunks.ensures.items)
