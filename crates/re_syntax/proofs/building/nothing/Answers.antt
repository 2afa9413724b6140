use Rattle.re_syntax.specs.Working.Mirrors.{neither}
use Rattle.re_syntax.proofs.building.nothing.Goals as goal

pub returns : goal.returns
returns c = record { level = c.no_frame.ensures; outer = rw c.new.ensures.items neither }
