use Rattle.grep_core.proofs.lemmas.MessageLemmas.{writes_cannot_open}
use Rattle.grep_core.proofs.output.messages.write_cannot_open.Goals as goal

pub returns : goal.returns
returns g c =
    writes_cannot_open _ _ _ _ _ _ c.write_row.ensures
