use Rattle.re_syntax.proofs.{Prelude.refl, lemmas.ShapeLaws.{item_taken, item_refused}}
use Rattle.re_syntax.proofs.shape.repeat.Goals as goal

pub returns-then-shape-len-ge-MOST_LEVELS-clause-refused : goal.returns-then-shape-len-ge-MOST_LEVELS-clause-refused
returns-then-shape-len-ge-MOST_LEVELS-clause-refused c =
    item_refused _ _ c.len.ensures.value c.if-shape-len-ge-MOST_LEVELS.true c.too_deep.ensures

pub returns-clause-read : goal.returns-clause-read
returns-clause-read c =
    item_taken _ _ c.len.ensures.value c.if-shape-len-ge-MOST_LEVELS.false
    (cc (c.saturating_mul-shape.ensures, c.copies_of.ensures)) refl refl c.max-shape.ensures refl refl refl
