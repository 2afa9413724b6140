use Rattle.line_chunks.proofs.{Prelude.{◌∙◌, ap, get_or, no_line, all_of}, lemmas.Sums.line_found}
use Rattle.line_chunks.proofs.kept.KeptLines.is_matched.Goals as goal

pub returns : goal.returns
returns g c = cc (c.is_matched.ensures, line_found c.deref.ensures.value c.find_line-at.ensures.there c.find_line-at.ensures.within c.find_line-at.ensures.place c.index-entry.ensures ∙ ap (λ all. get_or (all_of all) c.args.place no_line) c.self.view_is)
