use Rattle.line_marks.proofs.Prelude.{take_rest}
use Rattle.line_marks.proofs.touched.rest_of.Goals as goal

pub returns : goal.returns
returns c = take_rest c.args.stretches.now c.args.many
