use Rattle.{grep_cmd.proofs.{Prelude.{state_of, ◌≡◌, [], rules, subst, sym, ap, ◌∙◌, refl, arith, Err, HasNoNewline, IsOneLineAndFew, Numbered, ScriptState, Clean, Memory, GaveLines, ScriptGives, AnsweredSoFar, HasRead}, lemmas.ScriptRuns.{so_far_none, so_far_accepted, so_far_refused, ends_here, next_fails, ends_truncated, answer_fails, grows, sends_after, gives_by_reader, runs_out_at_once}, script.Script.answer.Goals.{in-Ok-false, in-Err-next_line, in-Ok-true+in-Ok-Truncated, in-Ok-true+in-Err-answer_command}}, grep_core.proofs.lemmas.NumberedLemmas.has_handed_none}
use Rattle.grep_cmd.proofs.script.Script.answer.Goals as goal

none_in_nothing : HasNoNewline []
none_in_nothing i d below = absurd (omega arith)

pub loop-fault-init : goal.loop-fault-init
loop-fault-init g c =
    let lines = c.in-Ok.lines in
    let is = c.in-Ok.ensures.ok in
    let none = has_handed_none (λ r. g.R.CountedRead.remaining r.now) (λ r. g.R.CountedRead.failures r.now) lines (ap (λ (n : Numbered _). n.lines.ahead) is) (ap (λ (n : Numbered _). n.lines.stage) is) (ap (λ (n : Numbered _). n.number) is) in (
      subst (λ (s : ScriptState). AnsweredSoFar (λ r. g.R.CountedRead.remaining r.now) (λ r. g.R.CountedRead.failures r.now) g.W.CountedWrite.contents g.W.CountedWrite.failures lines.lines.reader s c.args.meter.now c.args.writer.now lines (state_of c.self.inside.session c.self.inside.has_text) c.args.meter.now c.args.writer.now Clean) c.self.view_is
          (so_far_none none),
      refl,
      subst IsOneLineAndFew (sym (ap (λ (n : Numbered _). n.lines.ahead) is)) none_in_nothing,
    )

pub loop-fault-preserved-in-Ok-Accepted : goal.loop-fault-preserved-in-Ok-Accepted
loop-fault-preserved-in-Ok-Accepted g c =
    let i = c.loop-fault.invariant in
    let next = rw c.in-Ok-true.field-0-test at c.in-Ok-true.ensures.next in
    let a = (rw c.in-Ok-Accepted.field-0-is at c.in-Ok-Accepted.ensures.answers) _ _ (next _ _ i.0.has_handed) in
    (so_far_accepted i.0 c.in-Ok-true.ensures.sent a.1 a.2 a.3, c.answer_command.ensures.same_loan ∙ c.next_line.ensures.same_loan ∙ i.1, c.answer_command.ensures.held (c.next_line.ensures.held i.2))

pub loop-fault-smaller-in-Ok-Accepted : goal.loop-fault-smaller-in-Ok-Accepted
loop-fault-smaller-in-Ok-Accepted g c =
    let s = c.loop-fault.invariant.0 in
    let next = rw c.in-Ok-true.field-0-test at c.in-Ok-true.ensures.next in
    let a = (rw c.in-Ok-Accepted.field-0-is at c.in-Ok-Accepted.ensures.answers) _ _ (next _ _ s.has_handed) in
    let more = grows s a.1 in
    omega (arith, more.0, more.1)

pub loop-fault-preserved : goal.loop-fault-preserved
loop-fault-preserved g c =
    let i = c.loop-fault.invariant in
    let next = rw c.in-Ok-true.field-0-test at c.in-Ok-true.ensures.next in
    let a = (rw c.in-Ok-Refused.field-0-is at c.in-Ok-Refused.ensures.answers) _ _ (next _ _ i.0.has_handed) in
    (so_far_refused i.0 c.in-Ok-true.ensures.sent a.1 a.2 a.3, c.answer_command.ensures.same_loan ∙ c.next_line.ensures.same_loan ∙ i.1, c.answer_command.ensures.held (c.next_line.ensures.held i.2))

pub loop-fault-smaller : goal.loop-fault-smaller
loop-fault-smaller g c =
    let s = c.loop-fault.invariant.0 in
    let next = rw c.in-Ok-true.field-0-test at c.in-Ok-true.ensures.next in
    let a = (rw c.in-Ok-Refused.field-0-is at c.in-Ok-Refused.ensures.answers) _ _ (next _ _ s.has_handed) in
    let more = grows s a.1 in
    omega (arith, more.0, more.1)

pub answer_command-requires : goal.answer_command-requires
answer_command-requires g c =
    let next = rw c.in-Ok-true.field-0-test at c.in-Ok-true.ensures.next in
    (_, _, next _ _ c.loop-fault.invariant.0.has_handed)

pub returns-in-Err-clause-gives : goal.returns-in-Err-clause-gives
returns-in-Err-clause-gives g c =
    let known = g.R.CountedRead.remaining c.args.reader.now in
    let failed = g.R.CountedRead.failures c.args.reader.now in
    subst (λ r. ScriptGives g.W.CountedWrite.contents g.W.CountedWrite.failures (GaveLines known (g.R.CountedRead.remaining r)) known (g.R.CountedRead.remaining r) failed (g.R.CountedRead.failures r) c.args.self.now c.args.self.now c.args.meter.now c.args.meter.now c.args.writer.now c.send_replies.new.writer c.send_replies.result)
    (search rules)
    (sends_after g.W.CountedWrite.contents g.W.CountedWrite.failures (GaveLines known known) known known failed failed c.args.self.now c.args.self.now c.args.meter.now c.args.meter.now c.args.writer.now c.args.writer.now c.send_replies.new.writer (Err Memory) c.send_replies.result (runs_out_at_once g.R.CountedRead.remaining g.R.CountedRead.failures g.W.CountedWrite.contents g.W.CountedWrite.failures c.args.reader.now c.args.self.now c.args.meter.now c.args.writer.now) c.send_replies.ensures.kept)

pub returns-clause-gives : goal.returns-clause-gives
returns-clause-gives g c =
    let i = c.loop-fault.invariant in
    let reader = c.in-Ok.lines.lines.reader in
    let then = c.match-next_line in
    let last = then.lines.lines.reader.now in
    let left = g.R.CountedRead.remaining last in
    let ended : ScriptGives g.W.CountedWrite.contents g.W.CountedWrite.failures (HasRead (λ r. g.R.CountedRead.remaining r.now) (λ r. g.R.CountedRead.failures r.now) reader then.lines) (g.R.CountedRead.remaining reader.now) left (g.R.CountedRead.failures reader.now) (g.R.CountedRead.failures last) c.args.self.now then.self c.args.meter.now then.meter c.args.writer.now then.writer then.ended
    × (then.lines.lines.reader.ghost_name ≡ reader.ghost_name) = elim c.match-next_line.branch [
      | in-Ok-false w ↦
          let next = rw w.in-Ok-false.field-0-test at w.in-Ok-false.ensures.next in
          rw w.lines-is (rw w.self-is (rw w.meter-is (rw w.writer-is (rw w.ended-is (ends_here i.0 c.next_line.new.lines c.next_line.new.out (next _ _ i.0.has_handed) w.in-Ok-false.ensures.sent, c.next_line.ensures.same_loan ∙ i.1)))))
      | in-Err-next_line w ↦
          let e = w.in-Err-next_line in
          rw w.lines-is (rw w.self-is (rw w.meter-is (rw w.writer-is (rw w.ended-is (next_fails i.0 c.next_line.new.lines c.next_line.new.out e.fault (e.ensures.held i.2) (e.ensures.next _ _ i.0.has_handed) e.ensures.sent, c.next_line.ensures.same_loan ∙ i.1)))))
      | in-Ok-true+in-Ok-Truncated w ↦
          let next = rw w.in-Ok-true.field-0-test at w.in-Ok-true.ensures.next in
          let a = (rw w.in-Ok-Truncated.field-0-is at w.in-Ok-Truncated.ensures.answers) _ _ (next _ _ i.0.has_handed) in
          rw w.lines-is (rw w.self-is (rw w.meter-is (rw w.writer-is (rw w.ended-is (ends_truncated i.0 w.in-Ok-true.ensures.sent a.0 a.1, w.answer_command.ensures.same_loan ∙ c.next_line.ensures.same_loan ∙ i.1)))))
      | in-Ok-true+in-Err-answer_command w ↦
          let next = rw w.in-Ok-true.field-0-test at w.in-Ok-true.ensures.next in
          let e = w.in-Err-answer_command in
          rw w.lines-is (rw w.self-is (rw w.meter-is (rw w.writer-is (rw w.ended-is (answer_fails i.0 c.next_line.new.lines.lines.line w.in-Ok-true.ensures.sent w.answer_command.new.lines (state_of w.answer_command.new.session w.answer_command.new.has_text) w.answer_command.new.meter w.answer_command.new.out e.fault (e.ensures.held (c.next_line.ensures.held i.2)) (e.ensures.answers _ _ (next _ _ i.0.has_handed)), w.answer_command.ensures.same_loan ∙ c.next_line.ensures.same_loan ∙ i.1)))))
    ] in
    let given = gives_by_reader (λ r. g.R.CountedRead.remaining r.now) (λ r. g.R.CountedRead.failures r.now) g.W.CountedWrite.contents g.W.CountedWrite.failures _ c.args.self.now then.self then.lines c.args.meter.now then.meter c.args.writer.now then.writer then.ended ended.0 in
    let gives = subst (λ r. ScriptGives g.W.CountedWrite.contents g.W.CountedWrite.failures (GaveLines (g.R.CountedRead.remaining r) left) (g.R.CountedRead.remaining r) left (g.R.CountedRead.failures r) (g.R.CountedRead.failures last) c.args.self.now then.self c.args.meter.now then.meter c.args.writer.now then.writer then.ended)
    (ap (λ (n : Numbered _). n.lines.reader.now) c.in-Ok.ensures.ok) given in
    let known = g.R.CountedRead.remaining c.args.reader.now in
    subst (λ r. ScriptGives g.W.CountedWrite.contents g.W.CountedWrite.failures (GaveLines known (g.R.CountedRead.remaining r)) known (g.R.CountedRead.remaining r) (g.R.CountedRead.failures c.args.reader.now) (g.R.CountedRead.failures r) c.args.self.now then.self c.args.meter.now then.meter c.args.writer.now c.send_replies-2.new.writer c.send_replies-2.result)
    (search (rules, ended.1))
    (sends_after g.W.CountedWrite.contents g.W.CountedWrite.failures (GaveLines known left) known left _ (g.R.CountedRead.failures last) c.args.self.now then.self c.args.meter.now then.meter c.args.writer.now then.writer c.send_replies-2.new.writer then.ended c.send_replies-2.result gives c.send_replies-2.ensures.kept)
