use Rattle.re_ends.{proofs.{Prelude.{arith, ap, length, sym, false, ℕ, ◌-◌, ◌∙◌, expression_of, is_end}, lemmas.KeptLaws.row_is, pass.Pass.step.Goals.After-pick}, specs.{declared.kept.KeptSteps.KeptSteps, Working.{Groups.numbers_of, KeptSteps.IsRowIn, EndTables.IsAtRow}}}
use Rattle.re_ends.proofs.lemmas.TableLaws as laws
use Rattle.re_ends.proofs.pass.Pass.step.Goals as goal

pub step-requires-clause-after : goal.step-requires-clause-after
step-requires-clause-after c =
    let at = c.requires.at.1 in
    let end = is_end c.args.asked.now.line.now c.args.from.place in
    rw (c.row-after.ensures end at.groups at.row) (row_is c.requires.at.0.steps at.row)

stepped : (c : After-pick) (steps : KeptSteps) (row : ℕ) → IsRowIn steps row false c.step.new.self.row.items → IsAtRow (expression_of c.args.asked.now.automaton.now) c.args.asked.now.line.now steps c.pick.new.self (c.args.from.place - 1) row
stepped c steps row is =
    let at = c.requires.at.1 in
    let same = c.row-after.ensures (is_end c.args.asked.now.line.now c.args.from.place) at.groups at.row in
    laws.step_stands c.pick.new.self c.args.from.place c.requires.some at.within (rw same at c.step.ensures.right) at.stands
    (rw c.deref.ensures.value at c.pick.ensures.picked) is

pub pick-requires : goal.pick-requires
pick-requires c =
    let at = c.requires.at.1 in
    let same = c.row-after.ensures (is_end c.args.asked.now.line.now c.args.from.place) at.groups at.row in
    record {
      fits = rw c.deref.ensures.value (laws.step_fits _ (row_is c.requires.at.0.steps at.row) (rw same at c.step.ensures.right) at.stands c.requires.at.0.most);
      count = c.step.ensures.count ∙ ap (λ l. length (numbers_of l)) (sym c.deref.ensures.value);
    }

pub put-requires-clause-from : goal.put-requires-clause-from
put-requires-clause-from c =
    let at = c.requires.at.1 in
    let end = is_end c.args.asked.now.line.now c.args.from.place in
    (end, at.groups, c.row_of.ensures.kept c.args.from.row end at.groups at.row, rw (c.row-after.ensures end at.groups at.row) at c.step.ensures.right)

pub returns-in_default-clause-at : goal.returns-in_default-clause-at
returns-in_default-clause-at c = (
  record { steps = c.begin_anew.ensures.sound; groups = c.step.ensures.made; most = omega (arith, c.requires.at.0.most, c.pick.ensures.most) },
  stepped (goal.at.returns-in_default-clause-at c).After-pick c.begin_anew.new.self c.begin_anew.result (rw c.deref-in_default.ensures.value at c.begin_anew.ensures.row),
)

pub returns-clause-at : goal.returns-clause-at
returns-clause-at c = (
  record { steps = c.put.ensures.sound; groups = c.step.ensures.made; most = omega (arith, c.requires.at.0.most, c.pick.ensures.most) },
  stepped (goal.at.returns-clause-at c).After-pick c.put.new.self c.in-Some.to (c.put.ensures.kept c.in-Some.to false c.step.new.self.row.items c.in-Some.ensures.sound.1),
)
