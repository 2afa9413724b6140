use Rattle.line_chunks.proofs.{Prelude.{◌∙◌, slice_range}, lemmas.Pieces.lines_extended}
use Rattle.line_chunks.proofs.new_chunks.extend_last.Goals as goal

pub returns : goal.returns
returns c = lines_extended c.extend.result c.args.fresh.now.items c.extend.new.entry (slice_range c.args.chunk.now c.args.from c.args.to) c.requires.some (c.len-last.ensures ∙ c.args.fresh.now.ok.0) c.index_mut.ensures.value c.extend.ensures
