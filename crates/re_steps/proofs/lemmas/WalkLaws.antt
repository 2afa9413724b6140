-- Searches that go on by what is held, and where they get.
use Rattle.{re_steps.proofs.{Prelude.{◌≡◌, ℕ, zero, suc, ◌+◌, ◌-◌, ◌*◌, ◌<◌, ◌≤◌, Bool, true, false, ◌⊎◌, inl, inr, List, Option, Some, None, length, nat_eq, nat_lt, get_or, slice_get, slice_index, refl, sym, ap, ◌∙◌, subst, arith, IsSome, lookup, Text, Expression, Mode, the_type, Search, Whole, StateSet, AddsJust, Steps, many_built, many_reused, IsNextSet, Acceptance, unknown, shown, Mirrors, IsKeptOrLost, Cache, Stage, IsHeld, HoldsNoOther, GoesOver, Goes, LineSearch, StepTable, Spot, Went, Rows, limit, AreSound, IsRightFor, IsRowOf, SaysNext, ComesTo, Lands, LandsAlone, cell_at, row_under, walked, IsAt, HasLanded, LeadsOn, Arrives, false≢true, lt-ltb, ltb-true, cases_eq, slice_get_within, slice_get-get_or, get_or_from_slice_get}, lemmas.{StageLaws.{nothing_held, goes_on, same_sym}, RowLaws.{cell_within, same_place, number_within}}}, re_meter.proofs.lemmas.Adding.{adds_none, reused_adds}}
use denote.Enum.Bare.{sameb}
use Rattle.re_steps.specs.declared.walk.Went.TheVariants as w

-- over no byte
pub walked_none : (place : ℕ) (steps : Steps) → walked (place - place) steps ≡ steps
walked_none place steps = let none : place - place ≡ 0 = omega arith in ap (λ n. walked n steps) none

-- steps that were reused, and some more
pub walked_on : (m n k : ℕ) (steps : Steps) → k ≡ m + n → walked n (walked m steps) ≡ walked k steps
walked_on zero n k steps is = let same : n ≡ k = omega (arith, is) in ap (λ j. walked j steps) same
walked_on (suc m) zero k steps is = let same : suc m ≡ k = omega (arith, is) in ap (λ j. walked j steps) same
walked_on (suc m) (suc n) zero steps is = absurd (omega (arith, is))
walked_on (suc m) (suc n) (suc k) steps is = ap (λ j. record { built = steps.built; reused = j; passed = steps.passed }) (omega (arith, is))

pub adds_walked : (n : ℕ) (steps : Steps) → AddsJust n 0 steps (walked n steps)
adds_walked zero steps = record { few = adds_none 0 0 steps; all = omega arith }
adds_walked (suc n) steps = record { few = reused_adds (suc n) 0 steps; all = omega arith }

-- the mode is that for whole lines, or it isn't
pub is_whole : (mode : Mode) → true ≡ sameb the_type mode Whole → mode ≡ Whole
is_whole Whole reported = refl
is_whole Search reported = absurd (false≢true (sym reported))

pub is_search : (mode : Mode) → false ≡ sameb the_type mode Whole → mode ≡ Search
is_search Search reported = refl
is_search Whole reported = absurd (false≢true reported)

-- the row below a cell
pub under_low : (cell : ℕ) → cell < limit → row_under cell ≡ cell
under_low cell low = rw (lt-ltb cell limit low) refl

pub under_high : (cell : ℕ) → limit ≤ cell → row_under cell ≡ cell - limit
under_high cell high = rw (not_below cell limit high) refl
  where
    not_below : (m n : ℕ) → n ≤ m → nat_lt m n ≡ false
    not_below m n le = by (nat_lt m n) refl
      where
        by : (b : Bool) → nat_lt m n ≡ b → nat_lt m n ≡ false
        by false is = is
        by true is = absurd (omega (arith, le, ltb-true m n is))

pub sides : (m n : ℕ) → (m < n) ⊎ (n ≤ m)
sides m n = search arith

module _ {e : Expression} {mode : Mode} {rows : Rows} (sound : AreSound e mode rows) where
  abbrev pub cache : Cache
  cache = record { classes = rows.classes; stride = rows.stride; sets = rows.sets; entries = rows.entries }

  some_shown : (o : Option ℕ) → shown o < unknown → IsSome o
  some_shown None low = absurd (omega (arith, low))
  some_shown (Some v) low = refl

  none_shown : (o : Option ℕ) → unknown ≡ shown o → ((v : ℕ) → o ≡ Some v → v < unknown) → IsSome o → ⊥
  none_shown None is small some = false≢true some
  none_shown (Some v) is small some = let low = small v refl in absurd (omega (arith, is, low))

  -- a pair whose cell is known is held
  pub cell_held : (r byte : ℕ) (set : StateSet) → IsRowOf rows.sets rows.stride r set → byte < 256 → cell_at rows.classes rows.cells r byte < unknown → IsHeld cache set byte
  cell_held r byte set row small low =
      let at : r + slice_index rows.classes byte ≡ row.number * rows.stride + slice_index rows.classes byte = omega (arith, row.row) in
      let shows = sound.mirrors.shows (r + slice_index rows.classes byte) (cell_within sound r _ _ row small) in
      record {
        number = row.number;
        same = set;
        is = row.is;
        alike = (refl, refl);
        held = subst (λ k. IsSome (lookup (nat_eq k) rows.entries)) at (some_shown _ (omega (arith, low, shows)));
      }

  -- and one whose cell is unknown isn't
  pub cell_not_held : (r byte : ℕ) (set : StateSet) → IsRowOf rows.sets rows.stride r set → byte < 256 → cell_at rows.classes rows.cells r byte ≡ unknown → ¬ IsHeld cache set byte
  cell_not_held r byte set row small none h =
      let number : h.number ≡ row.number = sound.apart h.number row.number h.same set h.is row.is h.alike in
      let at : h.number * rows.stride + slice_index rows.classes byte ≡ r + slice_index rows.classes byte = ap (λ n. n * rows.stride + slice_index rows.classes byte) number ∙ ap (λ n. n + slice_index rows.classes byte) (sym row.row) in
      let place = r + slice_index rows.classes byte in
      none_shown _ (sym none ∙ sound.mirrors.shows place (cell_within sound r _ _ row small))
      (λ v is. (sound.mirrors.within place v is).1) (subst (λ k. IsSome (lookup (nat_eq k) rows.entries)) at h.held)

  -- a search comes over a byte whose cell is a row
  pub comes_on : (line : Text) (first : Stage) (steps : Steps) (j r : ℕ) → j < length line → slice_index line j < 256 → cell_at rows.classes rows.cells r (slice_index line j) < limit
      → ComesTo e mode line first cache steps j r → ComesTo e mode line first cache (many_reused 1 steps) (suc j) (cell_at rows.classes rows.cells r (slice_index line j))
  comes_on line first steps j r lt small low came =
      let c = slice_index line j in
      let on = (sound.reported_too r came.set c came.row small).plain low in
      record {
        set = on.into;
        row = on.row;
        plain = λ within. on.plain;
        goes = goes_on e _ _ j _ _ _ came.goes
            (record { plain = came.plain lt; over = inl (record { held = cell_held r c _ came.row small (omega (arith, low)); next = on.next; cache = refl; steps = refl }) });
      }

  -- where a search is after a cell
  pub lands_at : (line : Text) (first : Stage) (from : StateSet) (now : Cache) (before after : Steps) (j byte cell : ℕ) → slice_get line j ≡ Some byte
      → SaysNext e mode now.sets now.stride from byte cell → cell < unknown → Goes e mode line j first (record { set = from; cache = cache; steps = before })
      → ((into : StateSet) → IsNextSet e mode from byte into → GoesOver e mode byte (record { set = from; cache = cache; steps = before }) (record { set = into; cache = now; steps = after }))
      → Lands e mode line first now after j cell
  lands_at line first from now before after j byte cell is reported_too held goes over = elim (sides _ _) [
    | inl low ↦ let on = reported_too.plain low in record {
      set = on.into;
      row = rw (under_low cell low) on.row;
      plain = λ _. on.plain;
      special = λ high. absurd (omega (arith, low, high));
      goes = goes_on e _ _ j _ _ _ goes (rw (get_or_from_slice_get line j byte 0 is) (over on.into on.next));
    }
    | inr high ↦ let on = reported_too.special high held in record {
      set = on.into;
      row = rw (under_high cell high) on.row;
      plain = λ low. absurd (omega (arith, low, high));
      special = λ _. (on.search, on.accepting);
      goes = goes_on e _ _ j _ _ _ goes (rw (get_or_from_slice_get line j byte 0 is) (over on.into on.next));
    }
  ]

  -- by a cell that is held
  pub lands_held : (line : Text) (first : Stage) (steps : Steps) (j r byte : ℕ) → byte < 256 → slice_get line j ≡ Some byte → cell_at rows.classes rows.cells r byte < unknown
      → ComesTo e mode line first cache steps j r → Lands e mode line first cache (many_reused 1 steps) j (cell_at rows.classes rows.cells r byte)
  lands_held line first steps j r byte small is held came =
      lands_at _ _ _ _ _ _ j _ _ is (sound.reported_too r came.set byte came.row small) held came.goes
      (λ into next. record {
        plain = came.plain (slice_get_within line j byte is);
        over = inl (record { held = cell_held r _ _ came.row small held; next = next; cache = refl; steps = refl });
      })

  -- by one that was worked out
  pub lands_learned : (line : Text) (first : Stage) (now : Cache) (before after : Steps) (j r byte cell : ℕ) → byte < 256 → slice_get line j ≡ Some byte → cell_at rows.classes rows.cells r byte ≡ unknown
      → ((set : StateSet) → IsRowOf rows.sets rows.stride r set → (cell < unknown) × SaysNext e mode now.sets now.stride set byte cell) → ((set : StateSet) → IsRowOf rows.sets rows.stride r set → HoldsNoOther e cache set byte now)
      → after ≡ many_built 1 before → ComesTo e mode line first cache before j r → Lands e mode line first now after j cell
  lands_learned line first now before after j r byte cell small is none found others counted came =
      lands_at _ _ _ _ _ _ j _ _ is (found came.set came.row).1 (found came.set came.row).0 came.goes
      (λ into next. record {
        plain = came.plain (slice_get_within line j byte is);
        over = inr (inl (record { not_held = cell_not_held r _ _ came.row small none; next = next; cache = others came.set came.row; steps = counted }));
      })

  -- or where only the set is known
  pub lands_alone : (line : Text) (first : Stage) (into : StateSet) (before after : Steps) (j r byte : ℕ) → byte < 256 → slice_get line j ≡ Some byte → cell_at rows.classes rows.cells r byte ≡ unknown
      → ((set : StateSet) → IsRowOf rows.sets rows.stride r set → IsNextSet e mode set byte into) → after ≡ many_built 1 before → ComesTo e mode line first cache before j r → LandsAlone e mode line first into after j
  lands_alone line first into before after j r byte small is none next counted came = λ now empty.
      goes_on e mode line j first (record { set = came.set; cache = cache; steps = before }) (record { set = into; cache = now; steps = after }) came.goes
      (rw (get_or_from_slice_get line j byte 0 is) (record {
        plain = came.plain (slice_get_within line j byte is);
        over = inr (inl (record {
          not_held = cell_not_held r _ _ came.row small none;
          next = next came.set came.row;
          cache = λ other b lt held. absurd (nothing_held _ _ b empty held);
          steps = counted;
        }));
      }))

  -- the row below a cell is that of some set
  pub row_below : (from : StateSet) (byte cell : ℕ) → SaysNext e mode rows.sets rows.stride from byte cell → cell < unknown → (set : StateSet) × IsRowOf rows.sets rows.stride (row_under cell) set
  row_below from byte cell reported_too held = elim (sides _ _) [
    | inl low ↦ let on = reported_too.plain low in (on.into, rw (under_low cell low) on.row)
    | inr high ↦ let on = reported_too.special high held in (on.into, rw (under_high cell high) on.row)
  ]

  -- with other sets, marks and cells, and room for other numbers of them
  abbrev pub with_more : List StateSet → List Acceptance → List ℕ → ℕ → Rows
  with_more more marks cells most = record { classes = rows.classes; stride = rows.stride; sets = more; marks = marks; cells = cells; entries = rows.entries; most = most }

  -- no pair is held after one was put but that one and those that were held
  pub holds_no_other : (sets-2 : List StateSet) (marks-2 : List Acceptance) (cells-2 : List ℕ) (most-2 : ℕ) → AreSound e mode (with_more sets-2 marks-2 cells-2 most-2)
      → ((r : ℕ) (set : StateSet) → IsRowOf rows.sets rows.stride r set → IsRowOf sets-2 rows.stride r set)
      → (new : List ℕ) (now : List (ℕ × ℕ)) → Mirrors now new → (r byte : ℕ) (set : StateSet) → IsRowOf rows.sets rows.stride r set → byte < 256
      → ((k : ℕ) → (k ≡ r + slice_index rows.classes byte → ⊥) → IsKeptOrLost (slice_index cells-2 k) (slice_index new k)) → length new ≡ length cells-2
      → HoldsNoOther e cache set byte (record { classes = rows.classes; stride = rows.stride; sets = sets-2; entries = now })
  holds_no_other sets-2 marks-2 cells-2 most-2 sound-2 later new now mirrors r byte set row small others len = λ other b lt h.
      let k = h.number * rows.stride + slice_index rows.classes b in
      let here : IsRowOf sets-2 rows.stride (h.number * rows.stride) h.same = record { number = h.number; row = refl; is = h.is } in
      elim (cases_eq k (r + slice_index rows.classes byte)) [
        | inl same ↦
            let both = same_place sound-2 (h.number * rows.stride) r (slice_index rows.classes b) (slice_index rows.classes byte) h.same set here (later r set row) (sound.classed b lt) (sound.classed byte small) same in
            inr (rw both.1 at (same_sym h.same other h.alike), sound.alike b byte lt small both.0)
        | inr not ↦
            let value = held_value (lookup (nat_eq k) now) refl h.held in
            let inside = (mirrors.within k value.0 value.1).0 in
            let known : slice_index new k < unknown = omega (arith, mirrors.shows k inside, ap shown value.1, (mirrors.within k value.0 value.1).1) in
            let old_cell : slice_index cells-2 k < unknown = kept (slice_index cells-2 k) (slice_index new k) (others k not) known in
            let entry : IsSome (lookup (nat_eq k) rows.entries) = some_shown (lookup (nat_eq k) rows.entries) (omega (arith, old_cell, sound-2.mirrors.shows k (omega (arith, inside, len)))) in
            let was = held_value (lookup (nat_eq k) rows.entries) refl entry in
            let within : h.number < length rows.sets = number_within sound h.number (slice_index rows.classes b) (sound.mirrors.within k was.0 was.1).0 in
            let old : IsRowOf rows.sets rows.stride (h.number * rows.stride) (get_or rows.sets h.number h.same) = record { number = h.number; row = refl; is = slice_get-get_or rows.sets h.number h.same within } in
            let both = same_place sound-2 (h.number * rows.stride) (h.number * rows.stride) (slice_index rows.classes b) (slice_index rows.classes b) (get_or rows.sets h.number h.same) h.same
            (later (h.number * rows.stride) (get_or rows.sets h.number h.same) old) here (sound.classed b lt) (sound.classed b lt) refl in
            inl (record { number = h.number; same = h.same; is = slice_get-get_or rows.sets h.number h.same within ∙ ap Some both.1; alike = h.alike; held = entry })
      ]
    where
      held_value : (o : Option ℕ) {p : Option ℕ} → p ≡ o → IsSome o → (v : ℕ) × (p ≡ Some v)
      held_value None is some = absurd (false≢true some)
      held_value (Some v) is some = (v, is)

      kept : (old new : ℕ) → IsKeptOrLost old new → new < unknown → old < unknown
      kept old new (inl same) low = omega (arith, same, low)
      kept old new (inr lost) low = absurd (omega (arith, lost, low))

-- the steps of a walk, by what counting them promises
pub walked_is : (n : ℕ) (old new : Steps) → new ≡ many_reused n old → (n ≡ 0 → new ≡ old) → new ≡ walked n old
walked_is zero old new counted none = none refl
walked_is (suc n) old new counted none = counted

module _ (asked : LineSearch) (old : StepTable) (before : Steps) (spot : Spot) (middle : StepTable) (between : Steps) (new : StepTable) (after : Steps) where
  -- a search that came over one byte by a cell went on
  pub arrives_on : (place cell : ℕ) (went : Went) → LeadsOn asked middle between place cell new after went → IsRightFor asked new → spot.place < place
      → ((first : Stage) → IsAt asked first old before spot.place spot.row → HasLanded asked first middle between place cell) → Arrives asked old before spot new after went
  arrives_on place cell (w.To next) leads right on lands = record {
    right = right;
    on = omega (arith, on, leads.0);
    within = leads.1;
    row = leads.2;
    comes = λ first came. leads.3 first (lands first came);
  }
  arrives_on place cell (w.Reported answer) leads right on lands = record { right = right; finishes = λ first came. leads first (lands first came) }
  arrives_on place cell (w.Alone k) leads right on lands = absurd leads
