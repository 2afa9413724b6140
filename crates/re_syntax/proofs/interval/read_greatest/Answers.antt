use Rattle.re_syntax.proofs.lemmas.IntervalReading.{no_greatest, no_greatest_end, greatest_stands}
use Rattle.re_syntax.proofs.interval.read_greatest.Goals as goal

pub returns-in_err-greatest : goal.returns-in_err-greatest
returns-in_err-greatest c = rw c.from_residual.ensures (no_greatest c.in_err-greatest.ensures)

pub returns-in_err-end : goal.returns-in_err-end
returns-in_err-end c = rw c.from_residual-in_err-end.ensures (no_greatest_end c.requires.closes c.in_ok-greatest.ensures c.in_err-end.ensures)

pub returns : goal.returns
returns c = greatest_stands c.in_ok-greatest.ensures c.in_ok-end.ensures
