use Rattle.line_chunks.proofs.lemmas.Sums.{hits_read}
use Rattle.line_chunks.proofs.entries.matched_before.Goals as goal

pub returns : goal.returns
returns c = hits_read c.args.entries.now c.args.k c.index-entries-k.result c.if-k-eq0.false c.requires.within c.requires.summed
