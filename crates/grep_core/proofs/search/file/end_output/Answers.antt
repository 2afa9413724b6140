use Rattle.grep_core.proofs.lemmas.RowLemmas.{writes_then_nothing}
use Rattle.grep_core.proofs.search.file.end_output.Goals as goal

pub returns : goal.returns
returns g c =
    writes_then_nothing _ _ _ _ _ _ _ c.in_ok-write_summary.ensures c.flush.ensures.kept
