use Rattle.line_chunks.proofs.{Prelude.{arith, ap, ◌+◌, length, get_or, [], chunks_of}, lemmas.{Joins.without_empty, Edits.{chunks_of-without, dropped_at, none_at, some_at}, Sums.length-chunks_of}}
use Rattle.line_chunks.proofs.chunks.drop_empty.Goals as goal

pub returns-clause-lines : goal.returns-clause-lines
returns-clause-lines c = without_empty (chunks_of c.args.entries.now.items) c.args.k (omega (arith, ap (λ all. length (get_or (chunks_of all) c.args.k [])) c.deref.ensures.value)) (chunks_of-without c.args.entries.now.items c.args.k (c.args.k + 1) c.remove_chunks.ensures.items)

pub returns-then-k-len-clause-filled : goal.returns-then-k-len-clause-filled
returns-then-k-len-clause-filled c = λ n order before after.
    none_at (chunks_of c.args.entries.now.items) c.args.k n order before after (omega (arith, length-chunks_of c.args.entries.now.items))

pub returns-then-size_at-gt0-clause-filled : goal.returns-then-size_at-gt0-clause-filled
returns-then-size_at-gt0-clause-filled c = λ n order before after.
    some_at (chunks_of c.args.entries.now.items) c.args.k n order before after (omega (arith, length-chunks_of c.args.entries.now.items)) (omega (arith, ap (λ all. length (get_or (chunks_of all) c.args.k [])) c.deref.ensures.value))

pub returns-clause-filled : goal.returns-clause-filled
returns-clause-filled c = λ n order before after.
    dropped_at (chunks_of c.args.entries.now.items) c.args.k n order before after (omega (arith, length-chunks_of c.args.entries.now.items)) (chunks_of-without c.args.entries.now.items c.args.k (c.args.k + 1) c.remove_chunks.ensures.items)
