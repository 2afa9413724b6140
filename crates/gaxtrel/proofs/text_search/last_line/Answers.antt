use Rattle.gaxtrel.proofs.Prelude.{length, take_all, arith}
use Rattle.gaxtrel.proofs.text_search.last_line.Goals as goal

pub returns-clause-lines : goal.returns-clause-lines
returns-clause-lines c = rw (take_all (length c.args.text.now) c.args.text.now (omega arith)) at c.line_start.ensures.lines

pub returns-clause-last : goal.returns-clause-last
returns-clause-last c = rw (take_all (length c.args.text.now) c.args.text.now (omega arith)) at c.line_start.ensures.last
