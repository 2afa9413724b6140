use Rattle.grep_live.proofs.lemmas.NumberLemmas.{counted_all}
use Rattle.grep_live.proofs.hits.count_file.Goals as goal

pub returns : goal.returns
returns c = λ es meant hits are. counted_all es c.args.session.now.inputs c.args.k c.line_count.result c.hits_before.result c.line_count.ensures (c.hits_before.ensures es meant) hits are
