-- A pass by steps that are kept.
use Rattle.{re_ends.{proofs.{Prelude.{◌≡◌, ℕ, suc, ◌+◌, ◌-◌, ◌<◌, ◌≤◌, inl, inr, ◌⊎◌, Bool, false, List, [], ◌∷◌, ◌++◌, length, length-set, max, get_or-set_other, set, ap, slice_index, refl, sym, subst, ◌∙◌, arith, cases_eq, cases_lt, ◌↔◌, Text, Expression, Part, part_of, positions, is_begin, is_end, LeadsPast, MatchesPast}, lemmas.{EndLaws.{ends_decide, max_past}, GroupLaws.{as_many, no_less_before, steps_on}, ClosingLaws.few_groups, KeptLaws.row_is}}, specs.{declared.kept.{KeptSteps.KeptSteps, Step.Step}, Working.{Groups.{end_of, Ends, Fits, IsFirstIn, IsRow, IsStep, Leaves, StandAt}, KeptSteps.{unknown, cell_at, rows_of, AreStepsFor, IsKeptStep, IsOperation, IsRowIn}, EndTables.{IsAtRow, AddsFrom, IsFirstFrom}}}}, std.proofs.{Common.ne_eqb, lemmas.Grind.get_or-set_at}, re_trees.specs.declared.span.Span.Span}

-- the end of the first group with a position that a stretch can begin with is the greatest end
module _ (e : Expression) {line : Text} {p : ℕ} {groups ends : List ℕ} (stand : StandAt (part_of e 0) line p groups ends) {number : ℕ} (is : IsFirstIn ((part_of e 0).first (is_begin p)) groups number) where
  past_end : (m : ℕ) → (m < end_of ends number) ↔ MatchesPast e line p m
  past_end m = (λ past. (ends_decide e 0 line p m).1 (to number is past), λ h. back number is ((ends_decide e 0 line p m).0 h))
    where
      to : (n : ℕ) → IsFirstIn ((part_of e 0).first (is_begin p)) groups n → m < end_of ends n → (q : ℕ) × (part_of e 0).first (is_begin p) q × LeadsPast (part_of e 0) line p q m
      to n (inl (none, not)) past = absurd (let gone = ap (end_of ends) none in omega (arith, past, gone))
      to n (inr (k, at, (q, in_k, first), least)) past = (q, first, (stand.right q m).1 (k, in_k, subst (λ j. m < end_of ends j) at past))

      back : (n : ℕ) → IsFirstIn ((part_of e 0).first (is_begin p)) groups n → (q : ℕ) × (part_of e 0).first (is_begin p) q × LeadsPast (part_of e 0) line p q m → m < end_of ends n
      back n is (q, first, leads) = let (k, in_k, past) = (stand.right q m).0 leads in elim is [
        | inl none ↦ absurd (none.1 k q in_k first)
        | inr (j, at, some, least) ↦ rw at (no_less_before ends p j k m stand.fall (least k q in_k first) ((stand.groups k).1 (q, in_k)) past)
      ]

  -- the place is given its end
  pub place_marked : (start end : ℕ) (old now new : List ℕ) → start ≤ p → p - start < length now → new ≡ set now (p - start) (max (slice_index now (p - start)) (end_of ends number)) → AddsFrom e line start end (suc p) old now → AddsFrom e line start end p old new
  place_marked start end old now new low room put after = rw put (
    length-set now (p - start) (max (slice_index now (p - start)) (end_of ends number)) ∙ after.0,
    λ i m inside. elim (cases_eq i (p - start)) [
      | inl at ↦
          let here : p ≡ start + i = omega (arith, at, low) in
          let said = max_past (slice_index now i) (end_of ends number) m (get_or-set_at now (p - start) i _ 0 at room ∙ ap (λ k. max (slice_index now k) (end_of ends number)) (sym at)) in (
            (λ h. elim (said.0 h) [
              | inl had ↦ elim ((after.1 i m inside).0 had) [ inl o ↦ inl o | inr o ↦ absurd (omega (arith, o.0, here)) ]
              | inr past ↦ inr (omega (arith, here), rw here at ((past_end m).0 past))
            ]),
            (λ h. said.1 (elim h [ inl o ↦ inl ((after.1 i m inside).1 (inl o)) | inr o ↦ inr ((past_end m).1 (rw here o.1)) ])),
          )
      | inr other ↦ rw (get_or-set_other now (p - start) i _ 0 other) (
        (λ h. elim ((after.1 i m inside).0 h) [ inl o ↦ inl o | inr o ↦ inr (omega (arith, o.0), o.1) ]),
        (λ h. (after.1 i m inside).1 (elim h [ inl o ↦ inl o | inr o ↦ inr (omega (arith, o.0, other, low), o.1) ])),
      )
    ],
  )

-- a step back from a place
pub step_stands : {e : Expression} {line : Text} {steps : KeptSteps} {ends groups kept into : List ℕ} (new : Ends) (place : ℕ) {row : ℕ} → 0 < place → place ≤ length line → IsStep (part_of e 0) (is_end line place) groups (slice_index line (place - 1)) kept into → StandAt (part_of e 0) line place groups ends → Leaves kept (ends ++ place ∷ []) new.ends → IsRowIn steps row false into
    → IsAtRow e line steps new (place - 1) row
step_stands {e} {line} {steps} {ends} {groups} {kept} {into} new place {row} some within step stand left is =
    let one : suc (place - 1) ≡ place = omega (arith, some) in
    let lt : place - 1 < length line = omega (arith, some, within) in
    record {
      within = omega (arith, lt);
      groups = into;
      row = rw (ne_eqb (place - 1) (length line) (λ (same : place - 1 ≡ length line). omega (arith, same, lt))) is;
      stands = rw one at
          (steps_on (part_of e 0) line (place - 1) (is_end line (suc (place - 1))) groups ends kept into new.ends lt refl) step stand left;
    }

-- and there is room for its ends
pub step_fits : {n : ℕ} {part : Part} {at_end : Bool} {line : Text} {place c : ℕ} {groups kept into : List ℕ} (list : Ends) → IsRow n groups → IsStep part at_end groups c kept into → StandAt part line place groups list.ends → n < list.most → Fits kept list
step_fits {groups = groups} list row step stand room =
    let same = as_many groups step.count (length list.ends) step.groups stand.groups in (
      omega (arith, few_groups _ _ row.in_turn stand.groups, row.few, room),
      step.grow,
      λ k lt. let few = step.few k lt in omega (arith, few, same),
    )

-- a step that is kept
module _ {e : Expression} {line : Text} {steps : KeptSteps} {list : Ends} {place row : ℕ} {step : Step} (right : AreStepsFor e steps) (at : IsAtRow e line steps list place row) (byte : slice_index line (place - 1) < 256) (is : step ≡ cell_at (rows_of steps) row (slice_index line (place - 1))) (held : step.op < unknown) where
  kept_step : IsKeptStep (part_of e 0) steps.width steps.rows.items steps.lists.items (is_end line place) at.groups (slice_index line (place - 1)) step
  kept_step = rw is (right.kept row (is_end line place) at.groups (slice_index line (place - 1)) at.row byte (rw is at held))

  pub kept_fits : positions e < list.most → (kept : List ℕ) × IsOperation steps.lists.items step.op kept × (length kept ≡ step.count) × Fits kept list
  kept_fits room = (kept_step.kept, kept_step.op, kept_step.count, step_fits _ (row_is right at.row) kept_step.right at.stands room)

  module _ (new : Ends) (some : 0 < place) (moved : (kept : List ℕ) → IsOperation steps.lists.items step.op kept → length kept ≡ step.count → Leaves kept (list.ends ++ place ∷ []) new.ends) where
    pub walked : IsAtRow e line steps new (place - 1) step.row
    walked = step_stands new place some at.within kept_step.right at.stands (moved kept_step.kept kept_step.op kept_step.count) kept_step.row

    -- the place before it is not the line's first, and is given its end
    pub walked_ends : (start end : ℕ) (old now next : List ℕ) → 1 < place → start < place → place - 1 - start < length now → next ≡ set now (place - 1 - start) (max (slice_index now (place - 1 - start)) (end_of new.ends step.inside)) → AddsFrom e line start end place old now → AddsFrom e line start end (place - 1) old next
    unfolding walked kept_step step_stands
    walked_ends start end old now next inside low room put after =
        place_marked e walked.stands (rw (ne_eqb (place - 1) 0 (λ (first : place - 1 ≡ 0). omega (arith, first, inside))) kept_step.inside)
        start end old now next (omega (arith, low)) room put (rw (let one : place ≡ suc (place - 1) = omega (arith, some) in one) at after)

-- the first stretch from a place before, where the ends of the places between are listed
module _ (e : Expression) (line : Text) (stop place end : ℕ) (zeros ends : List ℕ) (seen found : Span) (low : stop ≤ place) (none : (i : ℕ) → slice_index zeros i ≡ 0) (added : AddsFrom e line stop place stop zeros ends) where
  said : (i m : ℕ) → stop ≤ i → i < place → (m < slice_index ends (i - stop)) ↔ MatchesPast e line i m
  said i m le lt =
      let here : stop + (i - stop) ≡ i = omega (arith, le) in
      let both = added.1 (i - stop) m (omega (arith, here, lt)) in (
        (λ h. elim (both.0 h) [ inl had ↦ absurd (let gone = none (i - stop) in omega (arith, had, gone)) | inr o ↦ rw here at o.1 ]),
        (λ h. both.1 (inr (omega arith, rw here h))),
      )

  pub first_found : place ≤ end → (((found ≡ seen) × ((k : ℕ) → k < place - stop → slice_index ends k ≡ 0)) ⊎ ((k : ℕ) × (k < place - stop) × (0 < slice_index ends k) × (found ≡ record { start = stop + k; end = slice_index ends k }) × ((i : ℕ) → i < k → slice_index ends i ≡ 0)))
      → IsFirstFrom e line place end seen → IsFirstFrom e line stop end found
  first_found ends_within (inl (same, gone)) was = rw same (elim was [
    | inl nothing ↦ inl (nothing.0, λ i m le lt p. before i m le p (λ ge. nothing.1 i m ge lt p))
    | inr first ↦ let (some, (from, inside, longer, at, earlier)) = first in inr (some, (omega (arith, from, low), inside, longer, at, λ i m le lt p. before i m le p (λ ge. earlier i m ge lt p)))
  ])
    where
      before : (i m : ℕ) → stop ≤ i → MatchesPast e line i m → (place ≤ i → ⊥) → ⊥
      before i m le p late = elim (cases_lt i place) [ inl lt ↦ let past = (said i m le lt).1 p in let is = gone (i - stop) (omega (arith, le, lt)) in omega (arith, past, is) | inr ge ↦ late ge ]
  first_found ends_within (inr (k, lt, some, is, gone)) was = rw is (inr (some, (omega arith, omega (arith, lt, ends_within), longer, at, λ i m le less p. let past = (said i m le (omega (arith, less, lt))).1 p in let none = gone (i - stop) (omega (arith, le, less)) in omega (arith, past, none))))
    where
      at : (m : ℕ) → (m < slice_index ends k) ↔ MatchesPast e line (stop + k) m
      at m = rw (let same : stop + k - stop ≡ k = omega arith in same) at (said (stop + k) m (omega arith) (omega (arith, lt)))

      longer : stop + k < slice_index ends k
      longer = let (j, past, after, within_line, holds) = (at 0).0 some in (at (stop + k)).1 (j, after, after, within_line, holds)
