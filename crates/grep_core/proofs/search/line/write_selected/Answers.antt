use Rattle.grep_core.proofs.{Prelude.sym, lemmas.{CostLaws.parts_searched, OneLineLemmas.{row_written, row_broken}}}
use Rattle.grep_core.proofs.search.line.write_selected.Goals as goal

pub returns-in-Lines-clause-ok : goal.returns-in-Lines-clause-ok
returns-in-Lines-clause-ok g c =
    row_written _ _ _ _ _ _ _ _ _ _ (sym c.in-Lines.ensures) _ c.write_text.ensures

pub returns-in-Lines-clause-err : goal.returns-in-Lines-clause-err
returns-in-Lines-clause-err g c =
    row_broken _ _ _ _ _ _ _ _ _ _ (sym c.in-Lines.ensures) _ c.write_text.ensures

pub returns-in-Parts-clause-steps : goal.returns-in-Parts-clause-steps
returns-in-Parts-clause-steps g c =
    parts_searched c.args.request.now.options _ _ c.in-Parts.ensures c.write_parts.ensures.steps
