use Rattle.re_syntax.specs.Working.Mirrors.{both}
use Rattle.re_syntax.proofs.building.open_level.Goals as goal

pub returns-clause-built : goal.returns-clause-built
returns-clause-built c = record {
  on = λ b m. record {
    level = rw c.replace-around.ensures.after c.no_frame.ensures;
    outer = both c.args.building.now.level m.outer m.level (rw c.replace-around.ensures.value at c.in_ok-keep.ensures.added);
  };
}
