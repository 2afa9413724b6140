use Rattle.re_trees.proofs.lemmas.SetBits.{only-low, only-high}
use Rattle.re_trees.proofs.bytes.ByteSet.only.Goals as goal

pub returns-then-byte-lt128 : goal.returns-then-byte-lt128
returns-then-byte-lt128 c = only-low _ c.if-byte-lt128.true

pub returns : goal.returns
returns c = only-high _ c.if-byte-lt128.false c.ranges.byte.fits
