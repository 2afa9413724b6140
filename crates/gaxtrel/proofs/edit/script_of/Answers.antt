use Rattle.gaxtrel.proofs.Prelude.{arith}
use Rattle.gaxtrel.proofs.edit.script_of.Goals as goal

pub returns : goal.returns
returns c = ((c.if-has_newline.ensures, omega (arith, c.count_lines.ensures, c.in-Ok.ensures, c.if-count-count_lines.false)), c.in-Ok-join.ensures)
