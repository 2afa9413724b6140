use Rattle.line_chunks.proofs.{Prelude.{map, bare}, lemmas.SeenLaws.seen_without}
use Rattle.line_chunks.proofs.chunk.Chunk.drop_number.Goals as goal

pub returns : goal.returns
returns c = cc (seen_without 0 c.args.p (map bare c.self.inside.lines) c.self.inside.found c.drop_number.new.self c.drop_number.ensures.finds, c.self.view_is)
