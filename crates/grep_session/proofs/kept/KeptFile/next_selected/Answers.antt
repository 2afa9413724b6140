use Rattle.grep_session.proofs.{Prelude.all_of, lemmas.CountLemmas.{file_passed, file_found}}
use Rattle.grep_session.proofs.kept.KeptFile.next_selected.Goals as goal

pub returns-clause-passed : goal.returns-clause-passed
returns-clause-passed c =
    λ es kept. file_passed es c.args.options.now c.args.self.now (all_of c.in-Some.lines) (rw c.in-Some.is) kept c.args.place c.find_selected.result c.find_selected.ensures

pub returns-clause-hit : goal.returns-clause-hit
returns-clause-hit c =
    λ es kept. file_found es c.args.options.now c.args.self.now (all_of c.in-Some.lines) (rw c.in-Some.is) kept c.args.place c.find_selected.result c.find_selected.ensures
