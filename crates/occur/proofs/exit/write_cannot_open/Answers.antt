use Rattle.occur.proofs.lemmas.ExitLemmas.{writes_cannot_open}
use Rattle.occur.proofs.exit.write_cannot_open.Goals as goal

pub returns : goal.returns
returns g c =
    writes_cannot_open g.M.CountedWrite.contents g.M.CountedWrite.failures c.args.messages.now c.write_row.new.out c.args.name.now c.write_row.result c.write_row.ensures
