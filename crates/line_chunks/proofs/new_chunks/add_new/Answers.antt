use Rattle.line_chunks.proofs.{Prelude.{arith, length-drop, length-take, drop, ◌-◌}, lemmas.Pieces.adds_chunk}
use Rattle.line_chunks.proofs.new_chunks.add_new.Goals as goal

pub returns : goal.returns
returns c = adds_chunk _ _ (record { chunk = c.add_part.new.self; end = 0; hits = 0 }) _ c.in_ok-push.ensures.items c.in_ok-add_part.ensures.ok c.in_ok-own.ensures (omega (arith, length-take (c.args.to - c.args.from) (drop c.args.from c.args.chunk.now), length-drop c.args.from c.args.chunk.now)) c.requires.full
