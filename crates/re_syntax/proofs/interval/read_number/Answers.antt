use Rattle.re_syntax.proofs.{Prelude.{arith, take_rest}, lemmas.IntervalReading.{number_stands, same_front}}
use Rattle.re_syntax.proofs.interval.read_number.Goals as goal

pub returns : goal.returns
returns c =
    number_stands c.requires (rw take_rest at c.digit_count-count.ensures) (omega arith)
    (cc (c.capped_value.ensures, same_front _))
