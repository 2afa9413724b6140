use Rattle.line_marks.proofs.{Prelude.{length, ap, arith, drop-drop, length-drop, Stretch}, lemmas.ReplaceLemmas.{counted_at, few_added, spliced_list}}
use Rattle.line_marks.proofs.splices.splice_at.Goals as goal

pub make_room-requires : goal.make_room-requires
make_room-requires c = record { known = c.requires.fit.0; lines = c.args.lines; few_known = c.requires.fit.1; few = omega arith; within = omega arith; fit = c.requires.fit.2 }

pub touched_at-all-requires-clause-counted : goal.touched_at-all-requires-clause-counted
touched_at-all-requires-clause-counted c =
    let passes = rw c.deref.ensures.0 at c.place_of-place.ensures.passes in
    rw c.deref-2.ensures.0 (counted_at _ _ c.args.start c.args.count c.args.added c.place_of-place.result.many c.place_of-place.result.rest _ c.requires.within c.make_room.ensures.loses passes c.requires.fit (omega arith))

pub overflow_add-all : goal.overflow_add-all
overflow_add-all c =
    let passes = rw c.deref.ensures.0 at c.place_of-place.ensures.passes in
    let takes = rw c.deref-2.ensures.0 at c.touched_at-all.ensures in
    omega (arith, few_added _ _ c.args.start c.args.count c.args.added c.place_of-place.result.many c.place_of-place.result.rest _ c.requires.within c.make_room.ensures.loses passes _ takes _ c.requires.fit.2)

pub put-requires-clause-within : goal.put-requires-clause-within
put-requires-clause-within c = omega (arith, length-drop {A = Stretch}, ap length c.deref.ensures.0, ap length c.deref-2.ensures.0)

pub put-requires-clause-lead : goal.put-requires-clause-lead
put-requires-clause-lead c = rw (c.deref-2.ensures.0, drop-drop) at c.touched_at-all.ensures.lead

pub returns : goal.returns
returns c =
    let passes = rw c.deref.ensures.0 at c.place_of-place.ensures.passes in
    let takes = rw c.deref-2.ensures.0 at c.touched_at-all.ensures in
    let s = spliced_list _ _ c.args.start c.args.count c.args.added c.place_of-place.result.many c.place_of-place.result.rest _ c.requires.within c.make_room.ensures.loses passes _ takes c.make_room.ensures.few c.make_room.ensures.same c.put.ensures in
    record { splices = s; fits = λ known fit. s.replaces.fits known c.args.lines c.requires.within (s.loses.fits known c.args.lines fit) }
