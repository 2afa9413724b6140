use Rattle.grep_core.proofs.Prelude.{◌≡◌, ◌-◌, ◌≤◌, length, take, lines_of, terminated}
use Rattle.grep_core.proofs.search.recent.last_lines.Given as goal

-- the last lines were looked at, one a turn
abbrev pub invariant-loop : goal.invariant-loop
invariant-loop l = record {
  within : l.start ≤ length l.block;
  recent : l.start ≡ length (terminated (take (length (lines_of l.block) - l.counter) (lines_of l.block)));
}
