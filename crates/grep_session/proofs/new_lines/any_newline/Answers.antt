use Rattle.grep_session.proofs.{Prelude.{arith, take_all, All-map, HasNoNewline, ◌≡◌, take}, lemmas.SessionLemmas.{fails_at, All-next}}
use Rattle.grep_session.proofs.new_lines.any_newline.Goals as goal

pub returns-then-has_newline : goal.returns-then-has_newline
returns-then-has_newline c =
    fails_at HasNoNewline (λ line. line.items) c.args.lines.now c.loop-line.line-index c.line-item.result c.loop-line-test.true c.line-item.is (rw c.deref.ensures.value at c.if-has_newline.ensures)

pub returns : goal.returns
returns c =
    let all : take c.loop-line.line-index c.args.lines.now ≡ c.args.lines.now = take_all _ _ (omega arith) in
    All-map HasNoNewline (λ line. line.items) c.args.lines.now (rw all at c.loop-line.invariant)

pub loop-line-preserved : goal.loop-line-preserved
loop-line-preserved c =
    All-next (λ line. HasNoNewline line.items) _ _ _ c.loop-line-test.true c.line-item.is c.loop-line.invariant (rw c.deref.ensures.value at c.if-has_newline.ensures)
