use Rattle.{grep_cmd.proofs.{Prelude.{◌≡◌, ◌<◌, ◌≤◌, [], ◌∷◌, ◌++◌, map, length, rules, ap, ◌∙◌, arith, length_push, length-map}, lemmas.ScriptAnswers.{one_more_taken, takes_fewer}}, grep_core.proofs.lemmas.RowLemmas.goes_on}
use Rattle.grep_cmd.proofs.script.pattern_lines.take_texts.Goals as goal

pub returns-in-Ok-false-clause-takes : goal.returns-in-Ok-false-clause-takes
returns-in-Ok-false-clause-takes g c =
    let taken = map (λ t. t.items) c.loop-alloc.taken.items in
    let below : length c.loop-alloc.taken.items < c.args.count = search rules in
    let few : length taken < c.args.count = omega (arith, length-map c.loop-alloc.taken.items (λ t. t.items)) in
    let next = rw c.in-Ok-false.field-0-test at c.in-Ok-false.ensures.next in
    λ reader handed h. (taken, few, next reader (handed ++ taken) (c.loop-alloc.invariant.0 reader handed h))

pub returns-in-Err-clause-takes : goal.returns-in-Err-clause-takes
returns-in-Err-clause-takes g c =
    let taken = map (λ t. t.items) c.loop-alloc.taken.items in
    let below : length c.loop-alloc.taken.items < c.args.count = search rules in
    let few : length taken < c.args.count = omega (arith, length-map c.loop-alloc.taken.items (λ t. t.items)) in
    λ reader handed h. takes_fewer g.R.CountedRead.remaining g.R.CountedRead.failures reader handed c.args.count c.next_line.new.lines taken c.in-Err.fault few
    (c.in-Err.ensures.next reader (handed ++ taken) (c.loop-alloc.invariant.0 reader handed h))

pub loop-alloc-preserved : goal.loop-alloc-preserved
loop-alloc-preserved g c =
    let taken = map (λ t. t.items) c.loop-alloc.taken.items in
    let below : length c.loop-alloc.taken.items < c.args.count = search rules in
    let few : length taken < c.args.count = omega (arith, length-map c.loop-alloc.taken.items (λ t. t.items)) in
    let line = c.next_line.new.lines.lines.line in
    let pushed : map (λ t. t.items) c.push_line.new.lines.items ≡ taken ++ line ∷ [] = cc (c.in-Ok.ensures, c.line.ensures) in
    let next = rw c.in-Ok-true.field-0-test at c.in-Ok-true.ensures.next in (
      λ reader handed h. rw pushed
          (one_more_taken g.R.CountedRead.remaining g.R.CountedRead.failures _ _ c.next_line.new.lines _ _ (next reader (handed ++ taken) (c.loop-alloc.invariant.0 reader handed h))),
      goes_on g.W.CountedWrite.contents g.W.CountedWrite.failures c.args.out.now c.loop-alloc.out c.next_line.new.out [] [] c.loop-alloc.invariant.1 c.in-Ok-true.ensures.sent,
      (let longer = ap length pushed ∙ length_push taken line in omega arith),
      c.next_line.ensures.same_loan ∙ c.loop-alloc.invariant.3,
      λ few. c.next_line.ensures.held (c.loop-alloc.invariant.4 few),
    )

pub returns-in-Err-push_line-clause-takes : goal.returns-in-Err-push_line-clause-takes
returns-in-Err-push_line-clause-takes g c =
    let taken = map (λ t. t.items) c.loop-alloc.taken.items in
    let line = c.next_line.new.lines.lines.line in
    let next = rw c.in-Ok-true.field-0-test at c.in-Ok-true.ensures.next in
    let below : length c.loop-alloc.taken.items < c.args.count = search rules in
    let few : length (taken ++ line ∷ []) ≤ c.args.count = omega (arith, length-map c.loop-alloc.taken.items (λ t. t.items), length_push taken line) in
    λ reader handed h. (taken ++ line ∷ [], few, one_more_taken g.R.CountedRead.remaining g.R.CountedRead.failures _ _ c.next_line.new.lines _ _ (next reader (handed ++ taken) (c.loop-alloc.invariant.0 reader handed h)))

pub returns-clause-takes : goal.returns-clause-takes
returns-clause-takes g c =
    let taken = map (λ t. t.items) c.loop-alloc.taken.items in
    let above : c.args.count ≤ length c.loop-alloc.taken.items = search rules in
    let most : c.args.count ≤ length taken = omega (arith, length-map c.loop-alloc.taken.items (λ t. t.items)) in
    λ reader handed h. (omega (arith, c.loop-alloc.invariant.2), c.loop-alloc.invariant.0 reader handed h)
