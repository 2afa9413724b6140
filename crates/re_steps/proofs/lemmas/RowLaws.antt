-- What is known of sets stays right when a set or a cell is added.
use Rattle.{re_steps.proofs.{Prelude.{◌≡◌, ℕ, zero, suc, ◌+◌, ◌-◌, ◌*◌, ◌/◌, ◌<◌, ◌≤◌, false, ◌⊎◌, inl, inr, List, [], ◌∷◌, ◌++◌, Some, length, length-append, slice_get, slice_index, get_or, replicate, refl, sym, ap, ◌∙◌, arith, get_or-append_right, cases_eq, false≢true, get_or_append_left, get_or-replicate, length-replicate, div-mul-add, slice_get_within, get_or_from_slice_get, Expression, Mode, Search, StateSet, IsMadeFor, IsSame, IsNextSet, IsAccepting, TakenAlike, Acceptance, unknown, Mirrors, IsKeptOrLost, Rows, limit, AreSound, HasFirstRows, AreExtended, IsRowOf, IsMarkOf, IsCellOf, SaysNext, cell_at}, lemmas.StageLaws.{same_sym, next_same}}, re_auto.proofs.lemmas.RowLemmas.row_within}

-- elements of a list that is longer by one
pub get_left : {X : Type 0} (xs ys : List X) (k : ℕ) (x : X) → slice_get xs k ≡ Some x → slice_get (xs ++ ys) k ≡ Some x
get_left [] ys k x is = cc
get_left (y ∷ xs) ys zero x is = is
get_left (y ∷ xs) ys (suc k) x is = get_left xs ys k x is

pub get_last : {X : Type 0} (xs : List X) (y : X) → slice_get (xs ++ y ∷ []) (length xs) ≡ Some y
get_last [] y = refl
get_last (x ∷ xs) y = get_last xs y

pub get_cases : {X : Type 0} (xs : List X) (y : X) (k : ℕ) (x : X) → slice_get (xs ++ y ∷ []) k ≡ Some x → (slice_get xs k ≡ Some x) ⊎ ((k ≡ length xs) × (y ≡ x))
get_cases [] y zero x is = inr (refl, cc)
get_cases [] y (suc k) x is = cc
get_cases (z ∷ xs) y zero x is = inl is
get_cases (z ∷ xs) y (suc k) x is = elim (get_cases xs y k x is) [ inl h ↦ inl h | inr h ↦ inr (ap suc h.0, h.1) ]

-- a set that is the same was made for the same automaton
pub made_same : (e : Expression) (set same : StateSet) → IsSame same set → IsMadeFor e set → IsMadeFor e same
made_same e set same is made = rw is.0 made

-- bytes that the same positions take lead to the same sets
next_alike : (e : Expression) (mode : Mode) (from into : StateSet) (b c : ℕ) → TakenAlike e b c → IsNextSet e mode from b into → IsNextSet e mode from c into
unfolding IsNextSet
next_alike e mode from into b c alike next = (next.0, λ q. (λ h. let w = (next.1 q).0 h in ((alike q).0 w.0, w.1), λ w. (next.1 q).1 ((alike q).1 w.0, w.1)))

module _ (e : Expression) (mode : Mode) (sets : List StateSet) (stride : ℕ) where
  -- a cell says nothing of what isn't held
  pub says_unknown : (from : StateSet) (byte : ℕ) → SaysNext e mode sets stride from byte unknown
  says_unknown from byte = record { plain = λ low. absurd (omega (arith, low)); special = λ high low. absurd (omega (arith, low)) }

  -- the same cell for a byte that the same positions take
  says_alike : (from : StateSet) (b c cell : ℕ) → TakenAlike e b c → SaysNext e mode sets stride from b cell → SaysNext e mode sets stride from c cell
  says_alike from b c cell alike t = record {
    plain = λ low. let on = t.plain low in record { into = on.into; row = on.row; next = next_alike e _ _ _ b c alike on.next; plain = on.plain };
    special = λ high low. let on = t.special high low in record { into = on.into; row = on.row; next = next_alike e _ _ _ b c alike on.next; search = on.search; accepting = on.accepting };
  }

  -- the cell of a set by its number and its mark
  pub says_cell : (from into same : StateSet) (byte number cell : ℕ) (mark : Acceptance) → slice_get sets number ≡ Some same → IsSame same into → IsNextSet e mode from byte into → IsMarkOf e mode same mark
      → number * stride < limit → IsCellOf mode mark (number * stride) cell → (cell < unknown) × SaysNext e mode sets stride from byte cell
  says_cell from into same byte number cell mark is alike next of small (inl plain) = (
    omega (arith, small, plain.0),
    record {
      plain = λ low. record {
        into = same;
        row = record { number = number; row = plain.0; is = is };
        next = next_same e _ _ _ _ _ alike next;
        plain = λ search accepts. absurd (none search accepts);
      };
      special = λ high low. absurd (omega (arith, high, small, plain.0));
    },
  )
    where
      none : mode ≡ Search → IsAccepting e Search same false → ⊥
      none search accepts = false≢true (sym (plain.1 search) ∙ of.inside.1 (rw search accepts))
  says_cell from into same byte number cell mark is alike next of small (inr special) = (
    omega (arith, small, special.0),
    record {
      plain = λ low. absurd (omega (arith, low, special.0));
      special = λ high low. record {
        into = same;
        row = record { number = number; row = omega (arith, special.0); is = is };
        next = next_same e _ _ _ _ _ alike next;
        search = special.1;
        accepting = rw special.1 at (of.inside.0 special.2);
      };
    },
  )

-- with sets added after the others
pub row_longer : (sets more : List StateSet) (stride r : ℕ) (set : StateSet) → IsRowOf sets stride r set → IsRowOf (sets ++ more) stride r set
row_longer sets more stride r set row = record { number = row.number; row = row.row; is = get_left sets more row.number set row.is }

-- the first two rows stay
pub first_later : (e : Expression) (mode : Mode) (old new : Rows) → AreExtended old new → HasFirstRows e mode old.sets → HasFirstRows e mode new.sets
first_later e mode old new kept first = record {
  nowhere = first.nowhere;
  is_nowhere = kept.sets 0 first.nowhere first.is_nowhere;
  empty = first.empty;
  start = first.start;
  is_start = kept.sets 1 first.start first.is_start;
  stands = first.stands;
}

says_longer : (e : Expression) (mode : Mode) (sets more : List StateSet) (stride : ℕ) (from : StateSet) (byte cell : ℕ) → SaysNext e mode sets stride from byte cell → SaysNext e mode (sets ++ more) stride from byte cell
says_longer e mode sets more stride from byte cell t = record {
  plain = λ low. let on = t.plain low in record { into = on.into; row = row_longer sets more stride cell on.into on.row; next = on.next; plain = on.plain };
  special = λ high low. let on = t.special high low in record { into = on.into; row = row_longer sets more stride (cell - limit) on.into on.row; next = on.next; search = on.search; accepting = on.accepting };
}

module _ {e : Expression} {mode : Mode} {rows : Rows} (sound : AreSound e mode rows) where
  -- each set has a cell for each byte
  pub cell_within : (r c : ℕ) (set : StateSet) → IsRowOf rows.sets rows.stride r set → c < 256 → r + slice_index rows.classes c < length rows.cells
  cell_within r c set row small =
      let lt = slice_get_within rows.sets row.number set row.is in
      let fits = row_within row.number (length rows.sets) rows.stride lt in
      let class = sound.classed c small in
      omega (arith, sound.filled, row.row, fits, class)

  -- a set is added, with its mark and a row for it that holds nothing
  pub sound_longer : (same : StateSet) (mark : Acceptance) → IsMadeFor e same → IsMarkOf e mode same mark → ((t : ℕ) (other : StateSet) → slice_get rows.sets t ≡ Some other → IsSame other same → ⊥)
      → length rows.cells + rows.stride ≤ limit → length rows.sets < rows.most + 3 → Mirrors rows.entries (rows.cells ++ replicate rows.stride unknown)
      → AreSound e mode (record { classes = rows.classes; stride = rows.stride; sets = rows.sets ++ same ∷ []; marks = rows.marks ++ mark ∷ []; cells = rows.cells ++ replicate rows.stride unknown; entries = rows.entries; most = rows.most })
  sound_longer same mark made of fresh fits room mirrors = record {
    bytes = sound.bytes;
    few_classes = sound.few_classes;
    classed = sound.classed;
    alike = sound.alike;
    made = λ t set is. elim (get_cases rows.sets same t set is) [ inl h ↦ sound.made t set h | inr h ↦ rw h.1 at made ];
    apart = λ s t one other is at alike. elim (get_cases rows.sets same s one is) [
      | inl early ↦ elim (get_cases rows.sets same t other at) [
        | inl before ↦ sound.apart s t one other early before alike
        | inr last ↦ absurd (fresh s one early (rw last.1 alike))
      ]
      | inr late ↦ elim (get_cases rows.sets same t other at) [
        | inl before ↦ absurd (fresh t other before (rw late.1 (same_sym one other alike)))
        | inr last ↦ late.0 ∙ sym last.0
      ]
    ];
    marked = λ t set is. elim (get_cases rows.sets same t set is) [
      | inl h ↦ let m = sound.marked t set h in record { mark = m.mark; is = get_left rows.marks (mark ∷ []) t m.mark m.is; reported_too = m.reported_too }
      | inr h ↦ record {
        mark = mark;
        is = rw (sound.as_many ∙ sym h.0) at (get_last rows.marks mark);
        reported_too = rw h.1 at of;
      }
    ];
    as_many = omega (arith, length-append rows.marks (mark ∷ []), length-append rows.sets (same ∷ []), sound.as_many);
    filled =
        let product : (length rows.sets + 1) * rows.stride ≡ length rows.sets * rows.stride + rows.stride = omega arith in
        let count : length (rows.sets ++ same ∷ []) ≡ length rows.sets + 1 = omega (arith, length-append rows.sets (same ∷ [])) in
        omega (arith, length-append rows.cells (replicate rows.stride unknown), length-replicate rows.stride unknown, sound.filled, product) ∙ ap (λ n. n * rows.stride) (sym count);
    few = omega (arith, length-append rows.cells (replicate rows.stride unknown), length-replicate rows.stride unknown, fits);
    few_sets = omega (arith, length-append rows.sets (same ∷ []), room);
    mirrors = mirrors;
    reported_too = λ r from c row small. elim (get_cases rows.sets same row.number from row.is) [
      | inl is ↦ old r from c row small is
      | inr is ↦ new r from c row small is.0
    ];
  }
    where
      old : (r : ℕ) (from : StateSet) (c : ℕ) (row : IsRowOf (rows.sets ++ same ∷ []) rows.stride r from) → c < 256 → slice_get rows.sets row.number ≡ Some from →
          SaysNext e mode (rows.sets ++ same ∷ []) rows.stride from c (cell_at rows.classes (rows.cells ++ replicate rows.stride unknown) r c)
      old r from c row small is =
          let before : IsRowOf rows.sets rows.stride r from = record { number = row.number; row = row.row; is = is } in
          let within = cell_within r c from before small in
          rw (get_or_append_left rows.cells (replicate rows.stride unknown) 0 (r + slice_index rows.classes c) within)
          (says_longer e _ _ _ _ _ c _ (sound.reported_too r from c before small))

      new : (r : ℕ) (from : StateSet) (c : ℕ) (row : IsRowOf (rows.sets ++ same ∷ []) rows.stride r from) → c < 256 → row.number ≡ length rows.sets →
          SaysNext e mode (rows.sets ++ same ∷ []) rows.stride from c (cell_at rows.classes (rows.cells ++ replicate rows.stride unknown) r c)
      new r from c row small last =
          let class = sound.classed c small in
          let first : r ≡ length rows.cells = row.row ∙ ap (λ n. n * rows.stride) last ∙ sym sound.filled in
          let is : cell_at rows.classes (rows.cells ++ replicate rows.stride unknown) r c ≡ unknown =
          get_or-append_right rows.cells (replicate rows.stride unknown) (r + slice_index rows.classes c) 0 (omega (arith, first))
          ∙ get_or-replicate rows.stride (r + slice_index rows.classes c - length rows.cells) unknown 0 (omega (arith, first, class)) in
          rw is (says_unknown e _ _ _ _ c)

  -- a row's number and a class are known from a cell's place
  pub same_place : (r s a b : ℕ) (from set : StateSet) → IsRowOf rows.sets rows.stride r from → IsRowOf rows.sets rows.stride s set → a < rows.stride → b < rows.stride → r + a ≡ s + b → (a ≡ b) × (from ≡ set)
  same_place r s a b from set row other fits fits-2 is =
      let sum : row.number * rows.stride + a ≡ other.number * rows.stride + b = omega (arith, row.row, other.row, is) in
      let number : row.number ≡ other.number = sym (div-mul-add row.number rows.stride a fits) ∙ ap (λ n. n / rows.stride) sum ∙ div-mul-add other.number rows.stride b fits-2 in
      let both : Some from ≡ Some set = sym row.is ∙ ap (slice_get rows.sets) number ∙ other.is in
      (omega (arith, sum, ap (λ n. n * rows.stride) number), cc)

  -- a cell is held, and others may not be any more
  pub sound_held : (new : List ℕ) (now : List (ℕ × ℕ)) (r byte cell : ℕ) (set : StateSet) → IsRowOf rows.sets rows.stride r set → byte < 256 → SaysNext e mode rows.sets rows.stride set byte cell → length new ≡ length rows.cells
      → (slice_index new (r + slice_index rows.classes byte) ≡ cell) ⊎ (slice_index new (r + slice_index rows.classes byte) ≡ unknown)
      → ((k : ℕ) → (k ≡ r + slice_index rows.classes byte → ⊥) → IsKeptOrLost (slice_index rows.cells k) (slice_index new k)) → Mirrors now new
      → AreSound e mode (record { classes = rows.classes; stride = rows.stride; sets = rows.sets; marks = rows.marks; cells = new; entries = now; most = rows.most })
  sound_held new now r byte cell set row small reported_too len here others mirrors = record {
    bytes = sound.bytes;
    few_classes = sound.few_classes;
    classed = sound.classed;
    alike = sound.alike;
    made = sound.made;
    apart = sound.apart;
    marked = sound.marked;
    as_many = sound.as_many;
    filled = len ∙ sound.filled;
    few = omega (arith, len, sound.few);
    few_sets = sound.few_sets;
    mirrors = mirrors;
    reported_too = λ s from c at lt. elim (cases_eq (s + slice_index rows.classes c) (r + slice_index rows.classes byte)) [
      | inl same ↦
          let both = same_place s r (slice_index rows.classes c) (slice_index rows.classes byte) from set at row (sound.classed c lt) (sound.classed byte small) same in
          rw both.1 (rw same (elim here [
            | inl is ↦ rw is (says_alike e _ _ _ _ _ c _ (sound.alike byte c small lt (sym both.0)) reported_too)
            | inr is ↦ rw is (says_unknown e _ _ _ _ c)
          ]))
      | inr other ↦ elim (others (s + slice_index rows.classes c) other) [
        | inl is ↦ rw is (sound.reported_too s from c at lt)
        | inr is ↦ rw is (says_unknown e _ _ _ _ c)
      ]
    ];
  }

  some_class : 0 < rows.stride
  some_class = omega (arith, sound.classed 0 (omega arith))

  number_of_row : (r : ℕ) (set : StateSet) (row : IsRowOf rows.sets rows.stride r set) → r / rows.stride ≡ row.number
  number_of_row r set row =
      let first : row.number * rows.stride + 0 ≡ r = omega (arith, row.row) in
      ap (λ n. n / rows.stride) (sym first) ∙ div-mul-add row.number rows.stride 0 some_class

  -- the set of a row, by its number
  pub set_of_row : (r n : ℕ) (set read : StateSet) (keys : List StateSet) → IsRowOf rows.sets rows.stride r set → keys ≡ rows.sets → n ≡ r / rows.stride → read ≡ get_or keys n read → read ≡ set
  set_of_row r n set read keys row same number is =
      is ∙ ap (λ ks. get_or ks n read) same ∙ get_or_from_slice_get rows.sets n set read (rw (number ∙ number_of_row r set row) row.is)

  -- a set whose row has a cell has a number
  pub number_within : (n c : ℕ) → n * rows.stride + c < length rows.cells → n < length rows.sets
  number_within n c lt = elim (sides n _) [
    | inl inside ↦ inside
    | inr past ↦
        let fits = row_within (length rows.sets) (n + 1) rows.stride (omega (arith, past)) in
        let product : (n + 1) * rows.stride ≡ n * rows.stride + rows.stride = omega arith in
        absurd (omega (arith, fits, product, lt, sound.filled))
  ]
    where
      sides : (m n : ℕ) → (m < n) ⊎ (n ≤ m)
      sides m n = search arith

  -- the set of row 0
  pub row_zero : (set first : StateSet) → IsRowOf rows.sets rows.stride 0 set → slice_get rows.sets 0 ≡ Some first → set ≡ first
  row_zero set first row is =
      let zero : 0 ≡ 0 * rows.stride = omega arith in
      (same_place 0 0 0 0 _ _ row (record { number = 0; row = zero; is = is }) some_class some_class refl).1

  -- rows are below the limit
  pub row_small : (number : ℕ) (set : StateSet) → slice_get rows.sets number ≡ Some set → number * rows.stride < limit
  row_small number set is =
      let fits = row_within number (length rows.sets) rows.stride (slice_get_within rows.sets number set is) in
      omega (arith, fits, sound.filled, sound.few, some_class)

  pub row_inside : (r : ℕ) (set : StateSet) → IsRowOf rows.sets rows.stride r set → r / rows.stride < length rows.sets
  row_inside r set row = omega (arith, number_of_row r set row, slice_get_within rows.sets row.number set row.is)

  -- a set's mark, by its number
  pub mark_of_set : (number : ℕ) (set : StateSet) (read : Acceptance) → slice_get rows.sets number ≡ Some set → slice_get rows.marks number ≡ Some read → IsMarkOf e mode set read
  mark_of_set number set read at is =
      let m = sound.marked number set at in
      let both : Some m.mark ≡ Some read = sym m.is ∙ is in
      rw (some_same both) at m.reported_too
    where
      some_same : {X : Type 0} {x y : X} → Some x ≡ Some y → x ≡ y
      some_same is = cc

  pub mark_of_row : (r : ℕ) (set : StateSet) (read : Acceptance) → IsRowOf rows.sets rows.stride r set → slice_get rows.marks (r / rows.stride) ≡ Some read → IsMarkOf e mode set read
  mark_of_row r set read row is = mark_of_set _ _ _ row.is (sym (ap (slice_get rows.marks) (number_of_row r set row)) ∙ is)
