use Rattle.grep_session.proofs.Prelude.{All, take, HasNoNewline}
use Rattle.grep_session.proofs.new_lines.any_newline.Given as goal

abbrev pub invariant-loop-line : goal.invariant-loop-line
invariant-loop-line l = All (λ line. HasNoNewline line.items) (take l.line-index l.lines)
