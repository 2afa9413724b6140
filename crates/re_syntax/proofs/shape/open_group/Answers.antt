use Rattle.re_syntax.proofs.{Prelude.refl, lemmas.ShapeLaws.{group_taken, group_refused}}
use Rattle.re_syntax.proofs.shape.open_group.Goals as goal

pub returns-then-len-eq-MOST_LEVELS-clause-refused : goal.returns-then-len-eq-MOST_LEVELS-clause-refused
returns-then-len-eq-MOST_LEVELS-clause-refused c = group_refused c.len.ensures.value c.if-len-eq-MOST_LEVELS.true c.too_deep.ensures

pub returns-clause-read : goal.returns-clause-read
returns-clause-read c =
    group_taken c.len.ensures.value c.if-len-eq-MOST_LEVELS.false c.len.ensures.fits c.positions-positions.ensures refl refl refl refl refl c.push.ensures.items
