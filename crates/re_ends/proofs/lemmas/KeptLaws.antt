-- What is kept of steps stays right.
use Rattle.{re_ends.{proofs.Prelude.{◌≡◌, ℕ, zero, suc, ◌+◌, ◌-◌, ◌*◌, ◌/◌, ◌<◌, ◌≤◌, inl, inr, ◌⊎◌, Bool, false, List, [], ◌∷◌, ◌++◌, length, length-append, get_or, get_or-set_same, get_or-set_other, set, length-set, replicate, slice_get, slice_index, nat_eq, Some, refl, sym, ap, ◌∙◌, arith, cases_eq, Expression, part_of, positions}, specs.{declared.{kept.Step.Step, list.Run.Run}, Working.{Groups.{IsRow, IsStep, numbers, numbers_of}, KeptSteps.{listed, unknown, no_step, AllRuns, Lists, Rows, IsOperation, AreLonger, IsRowOf, IsKeptStep, AreClasses, AreRight}}}}, std.{specs.{Prelude.{Vec, vec_capacity, ◌^◌}, Global.Global, List.range_with_len}, proofs.{Common.{append-nil, ne_eqb}, lemmas.{List.{get_or_read_under, FromFn.length-range_with_len}, Nat.div-mul-add, Option.{get_or_from_slice_get, slice_get_within}}}}, re_auto.{proofs.lemmas.RowLemmas.row_within, specs.Working.StateSets.TakenAlike}}

-- elements of a list that is longer by one
pub get_left : {X : Type 0} (xs ys : List X) (k : ℕ) (x : X) → slice_get xs k ≡ Some x → slice_get (xs ++ ys) k ≡ Some x
get_left [] ys k x is = cc
get_left (y ∷ xs) _ zero x is = is
get_left (y ∷ xs) ys (suc k) x is = get_left xs ys k x is

pub get_last : {X : Type 0} (xs : List X) (y : X) → slice_get (xs ++ y ∷ []) (length xs) ≡ Some y
get_last [] y = refl
get_last (x ∷ xs) y = get_last xs y

get_cases : {X : Type 0} (xs : List X) (y : X) (k : ℕ) (x : X) → slice_get (xs ++ y ∷ []) k ≡ Some x → (slice_get xs k ≡ Some x) ⊎ ((k ≡ length xs) × (y ≡ x))
get_cases [] y zero x is = inr (refl, cc)
get_cases [] y (suc k) x is = cc
get_cases (z ∷ xs) y zero x is = inl is
get_cases (z ∷ xs) y (suc k) x is = elim (get_cases xs y k x is) [ inl h ↦ inl h | inr h ↦ inr (ap suc h.0, h.1) ]

some_same : {X : Type 0} {x y : X} → Some x ≡ Some y → x ≡ y
some_same is = cc

-- a list of one value has it at each place
pub blank_at : {X : Type 0} (x : X) (n k : ℕ) → get_or (replicate n x) k x ≡ x
blank_at x zero k = refl
blank_at x (suc n) zero = refl
blank_at x (suc n) (suc k) = blank_at x n k

-- bytes that the same positions take have the same steps
step_taken : (e : Expression) {end : Bool} {from kept new : List ℕ} {b c : ℕ} → TakenAlike e b c → IsStep (part_of e 0) end from b kept new → IsStep (part_of e 0) end from c kept new
step_taken e alike s = record {
  count = s.count;
  groups = s.groups;
  grow = s.grow;
  few = s.few;
  members = λ j q in_j. let (takes, can) = s.members j q in_j in ((alike q).0 takes, can);
  all = λ k q takes can. s.all k q ((alike q).1 takes) can;
  made = s.made;
}

-- lists after the others change no operation
op_longer : (old new : AllRuns) {op : ℕ} {kept : List ℕ} → AreLonger old new → IsOperation old op kept → IsOperation new op kept
op_longer _ _ {op} longer (first, rest) = (first, λ le. let (runs, is, same) = rest le in (runs, longer (op - 2 ^ 15) runs is, same))

-- runs that are not listed
pub no_run : (lists : AllRuns) (runs : List Run) → length runs ≡ 0 → IsOperation lists 0 (numbers_of runs)
no_run lists [] none = (λ low. (refl, refl), λ le. absurd (omega (arith, le)))
no_run lists (r ∷ rs) none = absurd (omega (arith, none))

pub one_run : (lists : AllRuns) (runs : List Run) (d : Run) → length runs ≡ 1 → (get_or runs 0 d).first < listed → IsOperation lists (get_or runs 0 d).first (numbers_of runs)
one_run lists [] d one less = absurd (omega (arith, one))
one_run lists (r ∷ []) d one less = (λ low. (refl, append-nil (numbers r) ∙ ap (range_with_len r.first) (sym (ap length (append-nil (numbers r)) ∙ length-range_with_len r.first (suc r.more)))), λ le. absurd (omega (arith, less, le)))
one_run lists (r ∷ s ∷ rs) d one less = absurd (omega (arith, one))

pub row_longer : {width : ℕ} {rows : Lists} (more : Lists) {r : ℕ} {end : Bool} {groups : List ℕ} → IsRowOf width rows r end groups → IsRowOf width (rows ++ more) r end groups
row_longer {rows = rows} more row = record { number = row.number; list = row.list; row = row.row; is = get_left rows more row.number row.list row.is; same = row.same; last = row.last }

-- a row that is not the first, by its number
pub row_at : (width : ℕ) {rows : Lists} (number : ℕ) (list : Vec ℕ Global) {groups : List ℕ} → 0 < number → slice_get rows number ≡ Some list → groups ≡ list.items → IsRowOf width rows (number * width) false groups
row_at width number list later is same = record { number = number; list = list; row = refl; is = is; same = same; last = sym (ne_eqb number 0 (λ (none : number ≡ 0). omega (arith, none, later))) }

no_more : {X : Type 0} (s : Step) → s ≡ no_step → s.op < unknown → X
no_more s is held = absurd (let no = rw is at held in omega (arith, no))

module _ {e : Expression} {known : Rows} (right : AreRight e known) where
  some_class : 0 < known.width
  some_class = let at = right.rows.classes.classed 0 (omega arith) in omega (arith, at)

  pub class_read : {c : ℕ} (read : ℕ) → c < 256 → read ≡ get_or known.classes c read → read ≡ slice_index known.classes c
  class_read {c} read small is = get_or_read_under known.classes c 256 read 0 is small (omega (arith, right.rows.classes.bytes))

  module _ {r : ℕ} {end : Bool} {groups : List ℕ} (row : IsRowOf known.width known.rows r end groups) where
    number_of : r / known.width ≡ row.number
    number_of =
        let first : row.number * known.width + 0 ≡ r = omega (arith, row.row) in
        ap (λ n. n / known.width) (sym first) ∙ div-mul-add row.number known.width 0 some_class

    row_fits : r + known.width ≤ length known.rows * known.width
    row_fits =
        let lt = slice_get_within known.rows row.number row.list row.is in
        let fits = row_within row.number (length known.rows) known.width lt in omega (arith, fits, row.row)

    -- its cells
    pub cell_before : (c : ℕ) → c < 256 → r + slice_index known.classes c < length known.rows * known.width
    cell_before c small = let class = right.rows.classes.classed c small in omega (arith, row_fits, class)

    pub cell_within : (c : ℕ) → c < 256 → r + slice_index known.classes c < length known.cells
    cell_within c small = let before = cell_before c small in omega (arith, before, right.filled)

    pub row_small : r < 2 ^ 30
    row_small = omega (arith, row_fits, right.rows.small, some_class)

    pub row_inside : r / known.width < length known.rows
    row_inside = let is = number_of in let lt = slice_get_within known.rows row.number row.list row.is in omega (arith, is, lt)

    pub row_is : IsRow (positions e) groups
    row_is = rw row.same (right.rows.rows row.number row.list row.is)

    -- the groups that are read of it
    pub row_read : (read : Vec ℕ Global) → read ≡ get_or known.rows (r / known.width) read → read.items ≡ groups
    row_read read is =
        let same = is ∙ get_or_from_slice_get known.rows (r / known.width) row.list read (rw number_of row.is) in
        ap (λ v. v.items) same ∙ sym row.same

  -- a row and a class are known from a cell's place
  same_place : {r s a b : ℕ} {end last : Bool} {from of : List ℕ} → IsRowOf known.width known.rows r end from → IsRowOf known.width known.rows s last of → a < known.width → b < known.width → r + a ≡ s + b → (a ≡ b) × (from ≡ of) × (end ≡ last)
  same_place {a = a} {b = b} row other fits fits-2 is =
      let sum : row.number * known.width + a ≡ other.number * known.width + b = omega (arith, row.row, other.row, is) in
      let number = sym (div-mul-add row.number known.width a fits) ∙ ap (λ n. n / known.width) sum ∙ div-mul-add other.number known.width b fits-2 in
      let both = sym row.is ∙ ap (slice_get known.rows) number ∙ other.is in
      (omega (arith, sum, ap (λ n. n * known.width) number), row.same ∙ ap (λ v. v.items) (some_same both) ∙ sym other.same, row.last ∙ ap (λ n. nat_eq n 0) number ∙ sym other.last)

  -- a row is added, without steps
  pub right_more : (list : Vec ℕ Global) (cells : List Step) → IsRow (positions e) list.items → length known.rows * known.width + known.width ≤ length cells → length known.rows * known.width + known.width ≤ 2 ^ 30
      → ((k : ℕ) → k < length known.rows * known.width → get_or cells k no_step ≡ get_or known.cells k no_step) → ((k : ℕ) → length known.rows * known.width ≤ k → get_or cells k no_step ≡ no_step)
      → AreRight e (record { classes = known.classes; width = known.width; rows = known.rows ++ list ∷ []; cells = cells; lists = known.lists })
  right_more list cells groups filled small same none = record {
    rows = record {
      classes = right.rows.classes;
      rows = λ k at is. elim (get_cases known.rows list k at is) [ inl h ↦ right.rows.rows k at h | inr h ↦ rw h.1 at groups ];
      begin = let (x, y, z, more, is, none, none-2, fits) = right.rows.begin in (x, y, z, more ++ list ∷ [], ap (λ l. l ++ list ∷ []) is, none, none-2, fits);
      small = rw count at small;
    };
    filled = rw count at filled;
    kept = λ r end of c row low held. elim (get_cases known.rows list row.number row.list row.is) [
      | inl h ↦
          let before : IsRowOf known.width known.rows r end of = record { number = row.number; list = row.list; row = row.row; is = h; same = row.same; last = row.last } in
          let is = same (r + slice_index known.classes c) (cell_before before c low) in
          rw is (longer (right.kept r end of c before low (rw is at held)))
      | inr h ↦ no_more (get_or cells (r + slice_index known.classes c) no_step) (none (r + slice_index known.classes c) (omega (arith, row.row, ap (λ n. n * known.width) h.0))) held
    ];
  }
    where
      count : length known.rows * known.width + known.width ≡ length (known.rows ++ list ∷ []) * known.width
      count =
          let product : length known.rows * known.width + known.width ≡ (length known.rows + 1) * known.width = omega arith in product ∙ ap (λ n. n * known.width) (sym (length-append known.rows (list ∷ [])))

      longer : {end : Bool} {of : List ℕ} {c : ℕ} {step : Step} → IsKeptStep (part_of e 0) known.width known.rows known.lists end of c step → IsKeptStep (part_of e 0) known.width (known.rows ++ list ∷ []) known.lists end of c step
      longer kept = record { into = kept.into; row = row_longer _ kept.row; kept = kept.kept; op = kept.op; count = kept.count; right = kept.right; inside = kept.inside }

  -- lists come after the others
  pub right_lists : {lists : AllRuns} → AreLonger known.lists lists → AreRight e (record { classes = known.classes; width = known.width; rows = known.rows; cells = known.cells; lists = lists })
  right_lists {lists} longer = record { rows = right.rows; filled = right.filled; kept = λ r end groups c row low held. listed (right.kept r end groups c row low held) }
    where
      listed : {last : Bool} {groups : List ℕ} {c : ℕ} {s : Step} → IsKeptStep (part_of e 0) known.width known.rows known.lists last groups c s → IsKeptStep (part_of e 0) known.width known.rows lists last groups c s
      listed kept = record { into = kept.into; row = kept.row; kept = kept.kept; op = op_longer _ _ longer kept.op; count = kept.count; right = kept.right; inside = kept.inside }

  -- a step is kept
  pub right_put : {from byte : ℕ} {end : Bool} {of : List ℕ} {step : Step} → IsRowOf known.width known.rows from end of → byte < 256 → IsKeptStep (part_of e 0) known.width known.rows known.lists end of byte step
      → AreRight e (record { classes = known.classes; width = known.width; rows = known.rows; cells = set known.cells (from + slice_index known.classes byte) step; lists = known.lists })
  right_put {from} {byte} {end} {of} {step} row small said = record {
    rows = right.rows;
    filled = omega (arith, right.filled, length-set known.cells put step);
    kept = λ r last groups c other low held. elim (cases_eq (r + slice_index known.classes c) put) [
      | inl same ↦
          let (class, is, ends) = same_place other row (right.rows.classes.classed c low) (right.rows.classes.classed byte small) same in
          let here = ap (λ n. get_or (set known.cells put step) n no_step) same ∙ get_or-set_same known.cells put step no_step (cell_within row byte small) in
          rw here (rw (ends, is) (taken (right.rows.classes.alike byte c small low (sym class))))
      | inr apart ↦
          let there = get_or-set_other known.cells put (r + slice_index known.classes c) step no_step apart in
          rw there (right.kept r last groups c other low (rw there at held))
    ];
  }
    where
      put : ℕ
      put = from + slice_index known.classes byte

      taken : {c : ℕ} → TakenAlike e byte c → IsKeptStep (part_of e 0) known.width known.rows known.lists end of c step
      taken alike = record { into = said.into; row = said.row; kept = said.kept; op = said.op; count = said.count; right = step_taken e alike said.right; inside = said.inside }

pub no_groups : (n : ℕ) → IsRow n []
no_groups n = record {
  full = λ i lt. absurd (omega (arith, lt));
  few = omega arith;
  small = λ k q in_k. absurd (omega (arith, in_k.1));
  in_turn = λ i j lt less. absurd (omega (arith, less));
  count = 0;
  groups = λ k. (λ lt. absurd (omega (arith, lt)), λ (q, in_k). absurd (omega (arith, in_k.1)));
}

-- there are three rows, the first two without groups, and no step is kept
pub right_three : {e : Expression} {classes : List ℕ} {width : ℕ} (x y z : Vec ℕ Global) (lists : AllRuns) {cells : List Step} → AreClasses e classes width → x.items ≡ [] → y.items ≡ [] → IsRow (positions e) z.items → positions e ≤ vec_capacity z → 3 * width ≤ length cells → ((k : ℕ) → get_or cells k no_step ≡ no_step)
    → AreRight e (record { classes = classes; width = width; rows = x ∷ y ∷ z ∷ []; cells = cells; lists = lists })
right_three {e} {classes} x y z lists {cells} are none none-2 row room filled blank = record {
  rows = record { classes = are; rows = each; begin = (x, y, z, [], refl, none, none-2, room); small = omega (arith, are.narrow) };
  filled = filled;
  kept = λ r end of c at low held. no_more (get_or cells (r + slice_index classes c) no_step) (blank (r + slice_index classes c)) held;
}
  where
    each : (k : ℕ) (v : Vec ℕ Global) → slice_get (x ∷ y ∷ z ∷ []) k ≡ Some v → IsRow (positions e) v.items
    each zero v is = rw (sym (some_same is), none) (no_groups _)
    each (suc zero) v is = rw (sym (some_same is), none-2) (no_groups _)
    each (suc (suc zero)) v is = rw (some_same is) at row
    each (suc (suc (suc k))) v is = cc
