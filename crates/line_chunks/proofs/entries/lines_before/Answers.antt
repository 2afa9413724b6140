use Rattle.line_chunks.proofs.lemmas.Sums.{lines_read}
use Rattle.line_chunks.proofs.entries.lines_before.Goals as goal

pub returns : goal.returns
returns c = lines_read c.args.entries.now c.args.k c.index-entries-k.result c.if-k-eq0.false c.requires.within c.requires.summed
