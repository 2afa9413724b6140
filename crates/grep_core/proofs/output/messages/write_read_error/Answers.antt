use Rattle.grep_core.proofs.lemmas.MessageLemmas.{writes_read_error}
use Rattle.grep_core.proofs.output.messages.write_read_error.Goals as goal

pub returns : goal.returns
returns g c =
    writes_read_error _ _ _ _ _ _ c.write_row.ensures
