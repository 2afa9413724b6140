use Rattle.re_syntax.proofs.lemmas.IntervalReading.{none_without_number, up_to_found, none_after_number, none_after_comma, none_after_numbers, stands_exactly, stands_at_least, stands_between}
use Rattle.re_syntax.proofs.interval.read_interval.Goals as goal

pub returns-in_err-least : goal.returns-in_err-least
returns-in_err-least c = rw c.from_residual.ensures (none_without_number _ c.in_err-least.ensures c.in_default.ensures)

pub returns-in-Some : goal.returns-in-Some
returns-in-Some c = up_to_found _ c.in-Some.ensures _ c.read_greatest.ensures

pub returns-in_err-comma : goal.returns-in_err-comma
returns-in_err-comma c =
    rw c.from_residual-in_err-comma.ensures
    (none_after_number c.requires.closes c.in_ok-least.ensures c.in_default-after.ensures c.in_err-comma.ensures)

pub returns-in_err-end-in-None : goal.returns-in_err-end-in-None
returns-in_err-end-in-None c =
    rw c.from_residual-in_err-end-in-None.ensures
    (none_after_comma c.requires.closes c.in_ok-least.ensures c.in_default-after.ensures c.in_ok-comma.ensures c.in-None.ensures c.in_err-end-in-None.ensures)

pub returns-in_err-end-in-Some-read_number : goal.returns-in_err-end-in-Some-read_number
returns-in_err-end-in-Some-read_number c =
    rw c.from_residual-in_err-end-in-Some-read_number.ensures
    (none_after_numbers c.requires.closes c.in_ok-least.ensures c.in_default-after.ensures c.in_ok-comma.ensures c.in-Some-read_number.ensures
    c.in_err-end-in-Some-read_number.ensures)

pub returns-in_ok-end-in-None : goal.returns-in_ok-end-in-None
returns-in_ok-end-in-None c = stands_at_least c.in_ok-least.ensures c.in_ok-comma.ensures c.in_ok-end-in-None.ensures

pub returns-in_ok-end-in-Some-read_number : goal.returns-in_ok-end-in-Some-read_number
returns-in_ok-end-in-Some-read_number c =
    stands_between c.in_ok-least.ensures c.in_ok-comma.ensures c.in-Some-read_number.ensures c.in_ok-end-in-Some-read_number.ensures

pub returns-in-Some-after : goal.returns-in-Some-after
returns-in-Some-after c = stands_exactly c.in_ok-least.ensures c.in-Some-after.ensures
