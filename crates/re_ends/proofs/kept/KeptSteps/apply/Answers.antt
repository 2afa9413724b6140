use Rattle.{re_ends.{proofs.{Prelude.{arith, ap, length, sym, ◌<◌, ◌∙◌, ◌-◌}, lemmas.ListLaws.run_within}, specs.Working.{Groups.numbers_of, KeptSteps.{listed, unknown}}}, std.{proofs.{Common.rules, lemmas.Option.{get_or_from_slice_get, slice_get_within}}, specs.List.range_with_len}}
use Rattle.re_ends.proofs.kept.KeptSteps.apply.Goals as goal

pub cut-requires-clause-room : goal.cut-requires-clause-room
cut-requires-clause-room c = (c.requires (omega (arith, c.if-step-lt-LISTED.true))).3.0

pub cut-requires-clause-few : goal.cut-requires-clause-few
cut-requires-clause-few c =
    let (kept, operation, count, fits) = c.requires (omega (arith, c.if-step-lt-LISTED.true)) in
    let (first, is) = operation.0 c.if-step-lt-LISTED.true in
    let le = run_within c.args.step.op (length c.args.list.now.ends) kept first is fits.2 in omega (arith, le, count)

pub returns-then-step-lt-LISTED-clause-moved : goal.returns-then-step-lt-LISTED-clause-moved
returns-then-step-lt-LISTED-clause-moved c = λ kept operation long yes. rw ((operation.0 c.if-step-lt-LISTED.true).1 ∙ ap (range_with_len c.args.step.op) long) c.cut.ensures.cut

pub index-requires : goal.index-requires
index-requires c =
    let held : c.args.step.op < unknown = search rules in
    let (kept, operation, count, fits) = c.requires held in
    let (runs, at, same) = operation.1 (omega (arith, c.if-step-lt-LISTED.false)) in
    let within = slice_get_within c.args.self.now.lists.items (c.args.step.op - listed) runs at in omega (arith, within, c.args.self.now.lists.ok)

pub pick-requires : goal.pick-requires
pick-requires c =
    let held : c.args.step.op < unknown = search rules in
    let (kept, operation, count, fits) = c.requires held in
    let (runs, at, same) = operation.1 (omega (arith, c.if-step-lt-LISTED.false)) in
    let is = same ∙ ap (λ v. numbers_of v.items) (sym (c.index.ensures ∙ get_or_from_slice_get c.args.self.now.lists.items (c.args.step.op - listed) runs c.index.result.now at)) ∙ ap numbers_of (sym c.deref.ensures.value) in
    record { fits = rw is at fits; count = sym count ∙ ap length is }

pub returns-clause-moved : goal.returns-clause-moved
returns-clause-moved c = λ kept operation long yes.
    let (runs, at, same) = operation.1 (omega (arith, c.if-step-lt-LISTED.false)) in
    rw (ap numbers_of c.deref.ensures.value ∙ ap (λ v. numbers_of v.items) (c.index.ensures ∙ get_or_from_slice_get c.args.self.now.lists.items (c.args.step.op - listed) runs c.index.result.now at) ∙ sym same) at c.pick.ensures.picked
