use Rattle.re_steps.proofs.{Prelude.{◌≡◌, None, Some, sym, ◌∙◌, expression_in}, lemmas.{StateSetKeys.{found_set, no_set}, StageLaws.same_trans, RowLaws.made_same}}
use Rattle.re_steps.proofs.table.StepTable.number_of.Goals as goal

pub returns-in-Some-clause-number : goal.returns-in-Some-clause-number
returns-in-Some-clause-number c = found_set c.args.self.now.sets.keys c.args.self.now.scratch c.in-Some.number (sym c.in-Some.ensures.index)

pub add-requires-clause-made : goal.add-requires-clause-made
add-requires-clause-made c = made_same (expression_in c.args.asked.now) c.args.self.now.scratch c.copy_from.new.self c.copy_from.ensures c.requires.made

pub add-requires-clause-fresh : goal.add-requires-clause-fresh
add-requires-clause-fresh c = λ t other is same.
    no_set c.args.self.now.sets.keys c.args.self.now.scratch (λ n found. let none : None ≡ Some n = c.in_default.ensures.index ∙ found in cc) t other is
    (same_trans other c.copy_from.new.self c.args.self.now.scratch same c.copy_from.ensures)

pub returns-in-Ok-add-clause-number : goal.returns-in-Ok-add-clause-number
returns-in-Ok-add-clause-number c = (c.copy_from.new.self, c.in-Ok-add.ensures.number, c.copy_from.ensures)
