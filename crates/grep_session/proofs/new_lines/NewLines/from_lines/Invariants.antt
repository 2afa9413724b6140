use Rattle.grep_session.proofs.Prelude.{◌≡◌, map, take}
use Rattle.grep_session.proofs.new_lines.NewLines.from_lines.Given as goal

-- the first lines were added
abbrev pub invariant-loop-line : goal.invariant-loop-line
invariant-loop-line l = l.new ≡ map (λ line. line.items) (take l.line-index l.lines)
