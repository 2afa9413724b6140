-- Repeated parts that are added: their copies, tails, and those without positions.
use Rattle.re_auto.proofs.{Prelude.{◌≡◌, ℕ, zero, suc, ◌+◌, ◌-◌, ◌*◌, ◌<◌, ◌≤◌, min, max, Bool, IsTrue, le-leb, length, ◌↔◌, Option, Some, None, IfSome, sym, subst, rfl, symm, trans, arith, lt-leb, Expression, repeat, most_positions, positions, Ends, Rows, Empty, Part, in_turn, again, optional, copies_before, up_to, only_if, part_of, Shows, Adds, IsAdded, IsAddedOf, IsBlank, AreTurns, AreUpTo, IsTail, empty_at, shown}, lemmas.{BitLemmas.one_of, AddedLemmas.{turn_added, optional_added, again_added}, WithoutPositions.{HasNoPositions, bare, turns_empty, no_positions, repeat_empty, repeat_no_positions}, PartLemmas.{always, never_holds, neither, shows_as, blank_as}}}

-- an equal number of positions
pub resized : {f : ℕ → Part} {size other beyond : ℕ} {r0 r1 : Rows} {a : Ends} → IsAdded f size beyond r0 r1 a → size ≡ other → IsAdded f other beyond r0 r1 a
resized added same = rw same at added

-- one more copy has room
pub turn_fits : (turns all size more beyond begins : ℕ) → turns < all → all * size + more ≤ beyond → begins + (turns * size + more) ≡ beyond → size ≤ begins
turn_fits turns all size more beyond begins lt fits meet = grind arith

module _ (e : Expression) (turns : ℕ) {beyond : ℕ} {r0 r1 r2 r3 : Rows} {a b r : Ends} (copy : IsAddedOf e b.begins r1 r2 a) (begins : r.begins ≡ a.begins)
    (shows : Shows (in_turn (shown a) (shown b)) r2.width r) (adds : Adds (in_turn (shown a) (shown b)) r2 r3) where
  -- one more copy before a tail
  pub turns_step : (tail : Option ℕ) → AreTurns e turns tail beyond r0 r1 b → AreTurns e (turns + 1) tail beyond r0 r3 r
  turns_step tail before =
      let next : suc turns ≡ turns + 1 = omega arith in
      rw (← next) (resized (turn_added before copy begins shows adds) (omega arith))

  -- one more copy that may be left out with those after it
  pub up_to_step : {s : Ends} → s.begins ≡ r.begins → Shows (optional (shown r)) (length r.first_inside.items) s → AreUpTo e turns beyond r0 r1 b → AreUpTo e (turns + 1) beyond r0 r3 s
  up_to_step same left_out before =
      let next : suc turns ≡ turns + 1 = omega arith in
      rw (← next) (resized (optional_added (turn_added before copy begins shows adds) same left_out) (omega arith))

-- no copies before a tail
pub no_turns : (e : Expression) (tail : Option ℕ) {beyond : ℕ} {r0 r1 : Rows} {a : Ends} → IsTail e tail beyond r0 r1 a → AreTurns e 0 tail beyond r0 r1 a
no_turns e tail added = resized added (omega arith)

-- the part again and again, as a tail
pub again_tail : (e : Expression) {beyond : ℕ} {r0 r1 r2 : Rows} {a : Ends} → IsAddedOf e beyond r0 r1 a → Adds (again (shown a)) r1 r2 → IsTail e None beyond r0 r2 a
again_tail e added crossed = resized (again_added added crossed) (omega arith)

-- no copy
pub no_more : (e : Expression) {empty : Empty} {beyond : ℕ} {rows : Rows} {a : Ends} → ((b z : Bool) → IsTrue (empty_at empty b z)) → IsBlank rows.width beyond empty a → AreUpTo e 0 beyond rows rows a
no_more e everywhere blank = blank_as bare (λ b z. always (everywhere b z)) (omega arith) blank.shows

-- from `least` to `most` copies
pub bounded_added : (e : Expression) (least most : ℕ) {beyond : ℕ} {r0 r1 : Rows} {a : Ends} → least ≤ most → AreTurns e least (Some (most - least)) beyond r0 r1 a → IsAddedOf (repeat e least (Some most)) beyond r0 r1 a
bounded_added e least most {beyond} {r0} {r1} {a} le added =
    let size = positions e in
    let copies = copies_before (part_of e) size least (up_to (part_of e) size (most - least)) in
    let all : least * size + (most - least) * size ≡ most * size = grind arith in
    subst (λ c. IsAdded (λ n. only_if c (copies n)) (most * size) beyond r0 r1 a) (sym (le-leb least most le)) (resized {f = copies} added all)

-- `least` copies or more
pub unbounded_added : (e : Expression) (least : ℕ) {beyond : ℕ} {r0 r1 : Rows} {a : Ends} → 0 < least → AreTurns e (least - 1) None beyond r0 r1 a → IsAddedOf (repeat e least None) beyond r0 r1 a
unbounded_added e zero some added = absurd (omega arith)
unbounded_added e (suc least) some added =
    let same : suc least - 1 ≡ least = omega arith in
    let count : max (suc least) 1 ≡ suc least = omega arith in
    resized (rw same at added) (rw count (omega arith))

-- any number of copies
pub any_added : (e : Expression) {beyond : ℕ} {r0 r1 : Rows} {a r : Ends} → AreTurns e 0 None beyond r0 r1 a → r.begins ≡ a.begins → Shows (optional (shown a)) (length a.first_inside.items) r →
    IsAddedOf (repeat e 0 None) beyond r0 r1 r
any_added e added begins shows =
    let count : max 0 1 ≡ 1 = omega arith in
    resized (optional_added added begins shows) (rw count (omega arith))

-- a count up to its limit is the count itself where that number of copies fits
pub counted_whole : (n most size beyond : ℕ) → size ≡ min n (most_positions + 1) → most * n ≤ beyond → beyond ≤ most_positions → most * size ≡ most * n
counted_whole n most size beyond is fits few = grind arith

-- a part that never holds keeps the numbers of its copies
pub never_added : (e : Expression) (least most : ℕ) {size beyond : ℕ} {empty : Empty} {rows : Rows} {a : Ends} → most < least → size ≡ min (positions e) (most_positions + 1) → most * positions e ≤ beyond → beyond ≤ most_positions →
    ((b z : Bool) → ¬ IsTrue (empty_at empty b z)) → IsBlank rows.width (beyond - most * size) empty a → IsAddedOf (repeat e least (Some most)) beyond rows rows a
never_added e least most {size} {beyond} {rows = rows} {a = a} lt is fits few nowhere blank =
    let whole = counted_whole (positions e) most size beyond is fits few in
    subst (λ c. IsAdded (λ n. only_if c (copies_before (part_of e) (positions e) least (up_to (part_of e) (positions e) (most - least)) n)) (most * positions e) beyond rows rows a) (sym (lt-leb least most lt))
    (blank_as bare (λ b z. never_holds (nowhere b z)) (omega arith) blank.shows)

-- a part without positions, repeated
module _ (e : Expression) (least : ℕ) (most : Option ℕ) (within : IfSome most (λ top. least ≤ top)) (none : positions e ≡ 0) where
  once : {f : Part} {beyond : ℕ} {r0 r1 : Rows} {a : Ends} → HasNoPositions f → ((b z : Bool) → f.empty b z ↔ turns_empty (part_of e a.begins).empty least most b z) →
      a.begins ≡ beyond → Shows f r0.width a → Adds f r0 r1 → IsAddedOf (repeat e least most) beyond r0 r1 a
  once {a = a} bare same begins shows adds =
      let count = repeat_no_positions e least most none in
      let whole = no_positions (repeat e least most) a.begins count in
      record {
        begins = omega arith;
        shows = shows_as (λ b q. neither (bare.first b q) (whole.first b q)) (λ z q. neither (bare.last z q) (whole.last z q)) (λ b z. trans (same b z) (symm (repeat_empty e least most a.begins b z))) shows;
        adds = record {
          width = adds.width;
          follow_length = adds.follow_length;
          takes_length = adds.takes_length;
          follow = λ p q in_table. trans (adds.follow p q in_table) (one_of rfl (neither (bare.follow p q) (whole.follow p q)));
          takes = λ c q lt. trans (adds.takes c q lt) (one_of rfl (neither (bare.takes q c) (whole.takes q c)));
        };
      }

  -- where at least one turn is needed, the repeated part is empty where one turn is
  pub once_added : {beyond : ℕ} {r0 r1 : Rows} {a : Ends} → 0 < least → IsAddedOf e beyond r0 r1 a → IsAddedOf (repeat e least most) beyond r0 r1 a
  once_added {a = a} some added =
      once (no_positions e a.begins none)
      (λ b z. grind arith) (omega arith) added.shows added.adds

  -- where it may be left out, the repeated part is empty anywhere
  pub maybe_added : {beyond : ℕ} {r0 r1 : Rows} {a r : Ends} → least ≡ 0 → IsAddedOf e beyond r0 r1 a → r.begins ≡ a.begins → Shows (optional (shown a)) (length a.first_inside.items) r → IsAddedOf (repeat e least most) beyond r0 r1 r
  maybe_added {r = r} nought added begins shows =
      let left_out = optional_added added begins shows in
      let has_none = no_positions e r.begins none in
      once (record { first = has_none.first; last = has_none.last; follow = has_none.follow; takes = has_none.takes })
      (λ b z. grind arith) (omega arith) left_out.shows left_out.adds
