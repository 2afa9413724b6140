use Rattle.line_chunks.proofs.{Prelude.{chunks_of, new_line}, lemmas.Added.{filled_after, lines_ok}}
use Rattle.line_chunks.proofs.kept.KeptLines.push.Goals as goal

pub returns-clause-ok : goal.returns-clause-ok
returns-clause-ok g c = lines_ok c.add_line.result g.row.LIMIT (chunks_of c.add_line.new.entries.items) (new_line c.args.line.now) c.self.view_is c.add_line.ensures.ok

pub invariant_of-self : goal.invariant_of-self
invariant_of-self g c = (c.add_line.ensures.summed, filled_after c.add_line.result g.row.LIMIT c.self.inside.entries.items c.add_line.new.entries.items (new_line c.args.line.now) c.add_line.ensures.ok c.add_line.ensures.err c.self.invariant.1)
