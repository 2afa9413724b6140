use Rattle.line_chunks.proofs.lemmas.Edits.{chunks_of-set_at}
use Rattle.line_chunks.proofs.chunks.remove_at.Goals as goal

pub returns-clause-chunks : goal.returns-clause-chunks
returns-clause-chunks c = chunks_of-set_at c.args.entries.now.items c.args.k c.args.from c.args.to _ c.remove_from.new.entry c.requires.there c.index_mut.ensures.value c.remove_from.ensures
