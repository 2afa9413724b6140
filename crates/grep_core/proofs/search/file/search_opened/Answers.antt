use Rattle.grep_core.proofs.lemmas.{LinesLemmas.counts_plain, OpenedLemmas.gives_anyway}
use Rattle.grep_core.proofs.search.file.search_opened.Goals as goal

pub returns-then-only_counts-clause-given : goal.returns-then-only_counts-clause-given
returns-then-only_counts-clause-given g c =
    let w = c.args.request.now in
    gives_anyway _ _ _ (counts_plain w.options (c.only_counts.ensures.0 c.if-only_counts.true)) _ _ _ _ _ _ _ _ _ _ _ c.count_lines.ensures.given

pub returns-in_default-clause-given : goal.returns-in_default-clause-given
returns-in_default-clause-given g c =
    gives_anyway _ _ _ c.in_default.ensures _ _ _ _ _ _ _ _ _ _ _ c.search_lines.ensures.given
