use Rattle.{grep_cmd.proofs.{Prelude.{◌≡◌, ◌<◌, ◌≤◌, [], ◌∷◌, ◌++◌, length, rules, ap, ◌∙◌, arith, length_push}, lemmas.{FreeLines.free_line, ScriptAnswers.{one_more_taken, takes_fewer}}}, grep_core.proofs.lemmas.RowLemmas.goes_on}
use Rattle.grep_cmd.proofs.script.counted.take_lines.Goals as goal

pub returns-in-Ok-false-clause-takes : goal.returns-in-Ok-false-clause-takes
returns-in-Ok-false-clause-takes g c =
    let taken = c.loop-lines.taken in
    let few : length taken < c.args.count = search rules in
    let next = rw c.in-Ok-false.field-0-test at c.in-Ok-false.ensures.next in
    λ reader handed h. (taken, few, next reader (handed ++ taken) (c.loop-lines.invariant.0 reader handed h))

pub returns-in-Err-clause-takes : goal.returns-in-Err-clause-takes
returns-in-Err-clause-takes g c =
    let taken = c.loop-lines.taken in
    let few : length taken < c.args.count = search rules in
    λ reader handed h. takes_fewer g.R.CountedRead.remaining g.R.CountedRead.failures reader handed c.args.count c.next_line.new.lines taken c.in-Err.fault few
    (c.in-Err.ensures.next reader (handed ++ taken) (c.loop-lines.invariant.0 reader handed h))

pub loop-lines-preserved : goal.loop-lines-preserved
loop-lines-preserved g c =
    let taken = c.loop-lines.taken in
    let few : length taken < c.args.count = search rules in
    let line = c.next_line.new.lines.lines.line in
    let pushed : c.push.new.self ≡ taken ++ line ∷ [] = cc (c.in-Ok.ensures.ok, c.line.ensures) in
    let next = rw c.in-Ok-true.field-0-test at c.in-Ok-true.ensures.next in (
      λ reader handed h. rw pushed
          (one_more_taken g.R.CountedRead.remaining g.R.CountedRead.failures _ _ c.next_line.new.lines _ _ (next reader (handed ++ taken) (c.loop-lines.invariant.0 reader handed h))),
      goes_on g.W.CountedWrite.contents g.W.CountedWrite.failures c.args.out.now c.loop-lines.out c.next_line.new.out [] [] c.loop-lines.invariant.1 c.in-Ok-true.ensures.sent,
      (let longer = ap length pushed ∙ length_push taken line in omega arith),
      c.next_line.ensures.same_loan ∙ c.loop-lines.invariant.3,
      λ few. c.next_line.ensures.held (c.loop-lines.invariant.4 few),
    )

pub returns-in-Err-push-clause-takes : goal.returns-in-Err-push-clause-takes
returns-in-Err-push-clause-takes g c =
    let taken = c.loop-lines.taken in
    let line = c.next_line.new.lines.lines.line in
    let next = rw c.in-Ok-true.field-0-test at c.in-Ok-true.ensures.next in
    let below : length taken < c.args.count = search rules in
    let few : length (taken ++ line ∷ []) ≤ c.args.count = omega (arith, length_push taken line) in
    λ reader handed h. (taken ++ line ∷ [], few, one_more_taken g.R.CountedRead.remaining g.R.CountedRead.failures _ _ c.next_line.new.lines _ _ (next reader (handed ++ taken) (c.loop-lines.invariant.0 reader handed h)))

pub returns-clause-takes : goal.returns-clause-takes
returns-clause-takes g c =
    let taken = c.loop-lines.taken in
    let most : c.args.count ≤ length taken = search rules in
    λ reader handed h. (omega (arith, c.loop-lines.invariant.2), c.loop-lines.invariant.0 reader handed h)

pub push-requires : goal.push-requires
push-requires g c =
    let w = c.requires in
    let taken = c.loop-lines.taken in
    let next = rw c.in-Ok-true.field-0-test at c.in-Ok-true.ensures.next in
    rw c.line.ensures (free_line g.R.CountedRead.remaining g.R.CountedRead.failures _ _ _ c.next_line.new.lines (next w.0 (w.1 ++ taken) (c.loop-lines.invariant.0 w.0 w.1 w.2)))
