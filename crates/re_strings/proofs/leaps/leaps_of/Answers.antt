use Rattle.re_strings.proofs.{Prelude.{◌≡◌, ◌+◌, ◌≤◌, inl, inr, [], map, slice_index, subst, arith, get_or-map, length-map, cases_lt, text_at, pair_row}, lemmas.SetLeaps.leaps_by_places}
use Rattle.re_strings.proofs.leaps.leaps_of.Goals as goal

pub strings-init : goal.strings-init
strings-init c = record {
  full = c.in_ok-shifts.ensures.all;
  short = λ n lt. let is = c.in_ok-shifts.ensures.alike n lt in omega arith;
  right = λ i lt j le. absurd (omega arith);
}

pub shorten-requires-clause-long : goal.shorten-requires-clause-long
shorten-requires-clause-long c =
    let read =
    get_or-map (λ s. s.now) c.args.strings.now c.strings.place (record { ref_ptr = (0, 0); now = [] }) [] c.strings-test.true in
    let long = c.requires.long c.strings.place c.strings-test.true in
    rw read at long

pub strings-preserved : goal.strings-preserved
strings-preserved c =
    let texts = map (λ s. s.now) c.args.strings.now in
    let read =
    get_or-map (λ s. s.now) c.args.strings.now c.strings.place (record { ref_ptr = (0, 0); now = [] }) [] c.strings-test.true in
    record {
      full = c.shorten.ensures.full;
      short = λ n lt. let old = c.strings.invariant.short n lt in let less = c.shorten.ensures.lower n in omega arith;
      right = λ i lt j le.
          elim (cases_lt i c.strings.place) [
            | inl early ↦
                let old = c.strings.invariant.right i early j le in
                let less = c.shorten.ensures.lower (pair_row (slice_index (text_at texts i) j) (slice_index (text_at texts i) (j + 1))) in
                omega arith
            | inr late ↦
                let at : c.strings.place ≡ i = omega arith in
                subst (λ n. slice_index c.shorten.new.shifts.items (pair_row (slice_index (text_at texts n) j) (slice_index (text_at texts n) (j + 1))) + j + 2 ≤ c.args.window) at
                (rw read (c.shorten.ensures.short j le))
          ];
    }

pub returns-clause-right : goal.returns-clause-right
returns-clause-right c =
    let texts = map (λ s. s.now) c.args.strings.now in
    let size = length-map c.args.strings.now (λ s. s.now) in
    let place = c.strings.auto.place-end in
    leaps_by_places _ _
    (λ i lt. c.requires.long i (omega arith))
    (λ i lt j le. c.strings.invariant.right i (omega (arith, c.strings-test.false)) j le)
