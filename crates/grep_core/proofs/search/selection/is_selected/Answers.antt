use Rattle.grep_core.proofs.lemmas.OneLineLemmas.{selected_by}
use Rattle.grep_core.proofs.search.selection.is_selected.Goals as goal

pub returns-clause-reported : goal.returns-clause-reported
returns-clause-reported c =
    let options = c.args.options in
    selected_by _ options _ c.selects.ensures c.is_matched-matched.ensures.reported
