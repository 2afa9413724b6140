use Rattle.grep_session.proofs.{Prelude.all_of, lemmas.CountLemmas.file_counted}
use Rattle.grep_session.proofs.kept.KeptFile.selected_before.Goals as goal

pub returns : goal.returns
returns c =
    λ es kept.
    file_counted es c.args.options.now c.args.self.now (all_of c.in-Some.lines) (rw c.in-Some.is) kept c.args.place c.count_selected.result
    c.count_selected.ensures
