use Rattle.script_commands.proofs.Prelude.{◌≡◌, map, take, joined}
use Rattle.script_commands.proofs.pattern_list.join_lines.Given as goal

-- the lines before this place were joined
abbrev pub invariant-loop-at : goal.invariant-loop-at
invariant-loop-at l = l.text.items ≡ joined (take l.at (map (λ t. t.items) l.fn.lines))
