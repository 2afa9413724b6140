use Rattle.re_auto.proofs.lemmas.FillingLemmas.{reported_too}
use Rattle.re_auto.proofs.build.fill.fill_tables.Goals as goal

pub returns : goal.returns
returns c =
    reported_too _ _ _ c.add.new.self c.into_inner-ends.result _ _ _ c.requires.is c.requires.few c.in_ok-rows.ensures (rw c.into_inner-ends.ensures c.in_ok-ends.ensures) (rw c.deref-3.ensures.value at c.in_ok-classes.ensures)
    (rw c.of.ensures (c.bytes_meeting-marks.ensures.0, λ b lt. rw (c.deref.ensures.value, c.deref-2.ensures.value) at (c.bytes_meeting-marks.ensures.1 b lt)))
    (rw c.deref-4.ensures.value at c.in_ok-ranges.ensures)
