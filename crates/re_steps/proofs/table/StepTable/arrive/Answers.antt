use Rattle.re_steps.proofs.{Prelude.{arith, ◌≡◌, ◌*◌, inl, inr, refl, Stage, IsPlain, IsRowOf, cache_of, expression_in}, lemmas.{StageLaws.goes_to, RowLaws.row_zero, WalkLaws.{under_low, under_high, is_whole, is_search}}}
use Rattle.re_steps.proofs.table.StepTable.arrive.Goals as goal

pub returns-then-place-asked-clause-leads : goal.returns-then-place-asked-clause-leads
returns-then-place-asked-clause-leads c = λ first landed. let is = landed.1 in let lands = landed.2 in
    let special = lands.special c.if-cell-ge-LIMIT.true in
    let last : Stage = record { set = lands.set; cache = cache_of c.args.self.now; steps = c.args.meter.now } in
    record {
      place = c.args.place;
      within = c.requires.within.1;
      set = lands.set;
      goes = rw is at lands.goes;
      decides = inl (record { search = special.0; within = c.if-place-asked.true; accepting = special.1; yes = refl });
    }

pub returns-then-cell-ge-LIMIT-clause-leads : goal.returns-then-cell-ge-LIMIT-clause-leads
returns-then-cell-ge-LIMIT-clause-leads c =
    let known = c.args.self.now in
    let under = under_high c.args.cell c.if-cell-ge-LIMIT.true in (
      omega arith,
      c.requires.within.1,
      (c.requires.row.0, rw under at c.requires.row.1),
      λ first landed. let is = landed.1 in let lands = landed.2 in record {
        set = lands.set;
        row = rw under at lands.row;
        plain = λ lt. absurd (omega (arith, lt, c.if-place-asked.false));
        goes = let last : Stage = record { set = lands.set; cache = cache_of known; steps = c.args.meter.now } in rw is at lands.goes;
      },
    )

pub returns-then-cell-gt0-clause-leads : goal.returns-then-cell-gt0-clause-leads
returns-then-cell-gt0-clause-leads c =
    let known = c.args.self.now in
    let under = under_low c.args.cell (omega (arith, c.if-cell-ge-LIMIT.false)) in (
      omega arith,
      c.requires.within.1,
      (c.requires.row.0, rw under at c.requires.row.1),
      λ first landed. let is = landed.1 in let lands = landed.2 in record {
        set = lands.set;
        row = rw under at lands.row;
        plain = λ _. lands.plain (omega (arith, c.if-cell-ge-LIMIT.false));
        goes = let last : Stage = record { set = lands.set; cache = cache_of known; steps = c.args.meter.now } in rw is at lands.goes;
      },
    )

pub returns-then-eq-clause-leads : goal.returns-then-eq-clause-leads
returns-then-eq-clause-leads c = λ first landed. let is = landed.1 in let lands = landed.2 in
    let known = c.args.self.now in
    let e = expression_in c.args.asked.now in
    let zero : c.args.cell ≡ 0 = omega (arith, c.if-cell-gt0.false) in
    let row : IsRowOf known.sets.keys known.stride 0 lands.set = rw zero at lands.row in
    let rows = c.requires.right.first in
    let same = row_zero c.requires.right.sound lands.set rows.nowhere row rows.is_nowhere in
    let last : Stage = record { set = lands.set; cache = cache_of known; steps = c.args.meter.now } in
    record {
      place = c.args.place;
      within = c.requires.within.1;
      set = lands.set;
      goes = rw is at lands.goes;
      decides = inr (inl (record { whole = is_whole _ c.if-eq.ensures; nowhere = rw same rows.empty; no = refl }));
    }

pub returns-clause-leads : goal.returns-clause-leads
returns-clause-leads c =
    let known = c.args.self.now in
    let e = expression_in c.args.asked.now in
    let next = c.next_beginning-next.result in
    let zero : c.args.cell ≡ 0 = omega (arith, c.if-cell-gt0.false) in
    let rows = c.requires.right.first in
    let zeroth : IsRowOf known.sets.keys known.stride 0 rows.nowhere = (let zero : 0 ≡ 0 * known.stride = omega arith in record { number = 0; row = zero; is = rows.is_nowhere }) in
    let search = is_search c.args.asked.now.mode c.if-eq.ensures in (
      c.next_beginning-next.ensures.within.0,
      c.next_beginning-next.ensures.within.1,
      (rows.nowhere, zeroth),
      λ first landed. let is = landed.1 in let lands = landed.2 in
          let row : IsRowOf known.sets.keys known.stride 0 lands.set = rw zero at lands.row in
          let same = row_zero c.requires.right.sound lands.set rows.nowhere row rows.is_nowhere in
          let plain : IsPlain e c.args.asked.now.mode lands.set = lands.plain (omega (arith, zero)) in
          record {
            set = lands.set;
            row = row;
            plain = λ _. plain;
            goes = rw search
                (goes_to e c.args.asked.now.line.now first lands.set (cache_of known) c.args.place next c.args.meter.now c.next_beginning-next.new.meter c.next_beginning-next.ensures.within.0
                (rw same rows.empty) (rw search at plain) c.next_beginning-next.ensures.passed c.next_beginning-next.ensures.counted c.next_beginning-next.ensures.none
                (rw search at
                (rw is at lands.goes)));
          },
    )
