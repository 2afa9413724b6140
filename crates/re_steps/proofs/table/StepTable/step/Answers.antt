use Rattle.re_steps.proofs.{Prelude.{arith, ◌≡◌, ◌<◌, Option, None, Some, IfSome, refl, sym, ◌∙◌, IfNone, unknown, IsRow, cell_at, cache_of, row_under, expression_in}, lemmas.{StageLaws.nothing_held, WalkLaws.{lands_held, lands_learned, lands_alone, row_below}}}
use Rattle.re_steps.proofs.table.StepTable.step.Goals as goal

-- what holds of each value that an option may have
each : {A : Type 0} (o : Option A) (R : A → Type 0) → ((x : A) → o ≡ Some x → R x) → IfSome o R
each None R f = tt
each (Some x) R f = f x refl

in_any_case : {A : Type 0} (o : Option A) (P : Type 0) → P → IfNone o P
in_any_case None P p = p
in_any_case (Some x) P p = tt

pub returns-then-walk-ne-UNKNOWN-clause-cell : goal.returns-then-walk-ne-UNKNOWN-clause-cell
returns-then-walk-ne-UNKNOWN-clause-cell c =
    let known = c.args.self.now in
    let held : cell_at known.classes.items known.pairs.cells c.args.walk.row c.args.byte < unknown = omega (arith, c.if-walk-ne-UNKNOWN.true, c.requires.cell, c.ranges) in
    rw c.requires.cell (
      held,
      row_below c.requires.ready.0.sound _ _ _
          (c.requires.ready.0.sound.reported_too c.args.walk.row c.requires.row.0 c.args.byte c.requires.row.1 c.ranges.byte.fits) held,
    )

pub returns-then-walk-ne-UNKNOWN-clause-lands : goal.returns-then-walk-ne-UNKNOWN-clause-lands
returns-then-walk-ne-UNKNOWN-clause-lands c = λ line first j is came.
    let known = c.args.self.now in
    let e = expression_in c.args.asked.now in
    let held : cell_at known.classes.items known.pairs.cells c.args.walk.row c.args.byte < unknown = omega (arith, c.if-walk-ne-UNKNOWN.true, c.requires.cell, c.ranges) in
    rw c.add_reused.ensures (rw c.requires.cell
    (lands_held c.requires.ready.0.sound _ _ _ j _ _ c.ranges.byte.fits is held came))

pub returns-then-affords_miss-clause-cell : goal.returns-then-affords_miss-clause-cell
returns-then-affords_miss-clause-cell c =
    let found = c.in-Some.ensures.found c.requires.row.0 c.requires.row.1 in (
      found.0,
      row_below c.in-Some.ensures.right.sound
          _ _ _ found.1 found.0,
    )

pub returns-then-affords_miss-clause-lands : goal.returns-then-affords_miss-clause-lands
returns-then-affords_miss-clause-lands c = λ line first j is came.
    lands_learned c.requires.ready.0.sound line first (cache_of c.learn.new.self) c.args.meter.now c.learn.new.meter j c.args.walk.row c.args.byte c.in-Some.cell c.ranges.byte.fits is
    (sym c.requires.cell ∙ omega (arith, c.if-walk-ne-UNKNOWN.false)) c.in-Some.ensures.found c.in-Some.ensures.others c.learn.ensures.counted came

pub returns-clause-alone : goal.returns-clause-alone
returns-clause-alone c = λ line first j is came.
    lands_alone c.requires.ready.0.sound line first c.learn.new.self.scratch c.args.meter.now c.learn.new.meter j c.args.walk.row c.args.byte c.ranges.byte.fits is
    (sym c.requires.cell ∙ omega (arith, c.if-walk-ne-UNKNOWN.false)) c.learn.ensures.next c.learn.ensures.counted came

pub returns-in_default-clause-cell : goal.returns-in_default-clause-cell
returns-in_default-clause-cell c =
    let new = c.begin_anew.new.self in
    let next = c.learn.ensures.next c.requires.row.0 c.requires.row.1 in
    each _ (λ cell. (cell < unknown) × IsRow new (row_under cell)) (λ cell is.
    let right = rw is at c.begin_anew.ensures.right in
    let reported = rw is at (c.begin_anew.ensures.cell c.requires.row.0 c.args.byte next) in (
      reported.0,
      row_below right.sound _ _ _ reported.1 reported.0,
    ))

pub returns-in_default-clause-lands : goal.returns-in_default-clause-lands
returns-in_default-clause-lands c =
    let new = c.begin_anew.new.self in
    each c.begin_anew.result _ (λ cell is line first j at came.
    let empty = rw is at c.begin_anew.ensures.none in
    lands_learned c.requires.ready.0.sound line first (cache_of new) c.args.meter.now c.learn.new.meter j c.args.walk.row c.args.byte cell c.ranges.byte.fits at
    (sym c.requires.cell ∙ omega (arith, c.if-walk-ne-UNKNOWN.false))
    (λ set row. rw is at (c.begin_anew.ensures.cell set c.args.byte (c.learn.ensures.next set row)))
    (λ set row other b lt held. absurd (nothing_held (cache_of new) other b empty held))
    c.learn.ensures.counted came)

pub returns-in_default-clause-lasts : goal.returns-in_default-clause-lasts
returns-in_default-clause-lasts c = record {
  made = rw c.begin_anew.ensures.keeps.scratch c.learn.ensures.lasts.made;
  most = c.begin_anew.ensures.keeps.most ∙ c.learn.ensures.lasts.most;
}

pub returns-in_default-clause-alone : goal.returns-in_default-clause-alone
returns-in_default-clause-alone c = in_any_case c.begin_anew.result _ (λ line first j is came.
    rw c.begin_anew.ensures.keeps.scratch
    (lands_alone c.requires.ready.0.sound line first c.learn.new.self.scratch c.args.meter.now c.learn.new.meter j c.args.walk.row c.args.byte c.ranges.byte.fits is
    (sym c.requires.cell ∙ omega (arith, c.if-walk-ne-UNKNOWN.false)) c.learn.ensures.next c.learn.ensures.counted came))
