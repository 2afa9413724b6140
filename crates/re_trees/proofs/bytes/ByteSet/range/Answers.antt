use Rattle.re_trees.proofs.lemmas.SetBits.{members-range}
use Rattle.re_trees.proofs.bytes.ByteSet.range.Goals as goal

pub returns : goal.returns
returns c =
    members-range _ _ c.ranges.first.fits c.ranges.last.fits (rw (c.from-end.ensures, c.from-begin.ensures) at c.word_of.ensures)
    (rw (c.saturating_sub.ensures, c.saturating_sub-2.ensures, c.from-end.ensures, c.from-begin.ensures) at c.word_of-2.ensures)
