use Rattle.line_chunks.proofs.{Prelude.{◌∙◌, sym, map, length-map, bare}, lemmas.SeenLaws.hits_seen}
use Rattle.line_chunks.proofs.chunk.Chunk.hits.Goals as goal

pub returns : goal.returns
returns c = cc (hits_seen (map bare c.self.inside.lines) c.self.inside.found (c.self.invariant.1 ∙ sym (length-map c.self.inside.lines bare)) c.hits.ensures, c.self.view_is)
