use Rattle.re_syntax.{proofs.Prelude.{refl, ap, arith, length}, specs.Working.Mirrors.neither}
use Rattle.re_syntax.proofs.shape.at_start.Goals as goal

pub returns-clause-shows : goal.returns-clause-shows
returns-clause-shows c text = record {
  place_is = refl;
  last_is = refl;
  height_is = refl;
  around = rw c.new.ensures neither;
  bounded = record { last_fits = omega (arith, ap length c.new.ensures); height_fits = omega (arith, ap length c.new.ensures) };
}

pub returns-clause-counts : goal.returns-clause-counts
returns-clause-counts c = record { before = refl; item = refl; around = rw c.new.ensures neither }
