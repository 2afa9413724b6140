-- What was added, part by part: sequences, choices and repeated parts, from the last part to the
-- first.
use Rattle.re_auto.proofs.{Prelude.{◌≡◌, ℕ, zero, suc, ◌+◌, ◌-◌, ◌<◌, ◌≤◌, Bool, IsTrue, List, [], ◌∷◌, map, drop, length, get_or, drop-cons, ◌↔◌, sym, subst, arith, Expression, cat, alt, expression_of, positions, Tree, Ends, Rows, Empty, Has, Part, in_turn, either, again, optional, part_of, Shows, Adds, HasRoom, HasWidth, HasRows, IsAdded, IsAddedOf, IsBlank, empty_at, shown}, lemmas.{Numbered.IsNumbered, WithoutPositions.no_positions, CountLaws.positions-alt, PartLemmas.{blank_as, shows_in_turn, shows_either, shows_optional, shows_again, adds_in_turn, adds_either, adds_again, adds_optional, width_of, room_kept, has_rows}}}

-- an expression without positions
pub blank_added : (e : Expression) {empty : Empty} {beyond : ℕ} {rows : Rows} {ends : Ends} → positions e ≡ 0 →
    ((n : ℕ) (b z : Bool) → IsTrue (empty_at empty b z) ↔ (part_of e n).empty b z) → IsBlank rows.width beyond empty ends → IsAddedOf e beyond rows rows ends
blank_added e {ends = ends} none same blank = blank_as (no_positions e _ none) (same ends.begins) (omega arith) blank.shows

-- a part is added whose ends begin at a number
added_at : {p : ℕ → Part} {size beyond n : ℕ} {r0 r1 : Rows} {r : Ends} → r.begins ≡ n → n + size ≡ beyond → Shows (p n) r0.width r → Adds (p n) r0 r1 → IsAdded p size beyond r0 r1 r
added_at {p = p} {r0 = r0} {r = r} begins meet shows adds = record { begins = omega arith; shows = subst (λ n. Shows (p n) r0.width r) (sym begins) shows; adds = rw begins adds }

-- what is left of the room
pub room_left : {g : ℕ → Part} {more beyond : ℕ} {r0 r1 : Rows} {b : Ends} → IsAdded g more beyond r0 r1 b → HasRoom beyond r0 → HasRoom b.begins r1
room_left gb room = room_kept room gb.adds (omega arith)

module _ {f g : ℕ → Part} {size more beyond : ℕ} {r0 r1 r2 : Rows} {a b : Ends} (gb : IsAdded g more beyond r0 r1 b) (fa : IsAdded f size b.begins r1 r2 a) where
  -- one part more in front, in turn
  pub turn_added : {r3 : Rows} {r : Ends} → r.begins ≡ a.begins → Shows (in_turn (shown a) (shown b)) r2.width r → Adds (in_turn (shown a) (shown b)) r2 r3 →
      IsAdded (λ n. in_turn (f n) (g (n + size))) (size + more) beyond r0 r3 r
  turn_added begins shows adds =
      let front = rw gb.adds.width at fa.shows in
      added_at begins (omega arith) (rw fa.begins (shows_in_turn front gb.shows (rw (fa.adds.width, gb.adds.width) at shows))) (rw fa.begins (adds_in_turn front gb.shows gb.adds fa.adds adds))

  -- one branch more in front
  pub branch_added : {r : Ends} → r.begins ≡ a.begins → Shows (either (shown a) (shown b)) (length a.first_inside.items) r →
      IsAdded (λ n. either (f n) (g (n + size))) (size + more) beyond r0 r2 r
  branch_added begins shows =
      let front = rw gb.adds.width at fa.shows in
      added_at begins (omega arith) (rw fa.begins (shows_either front gb.shows (rw front.first_inside.0 at shows))) (rw fa.begins (adds_either gb.adds fa.adds))

  -- what joining the parts asks for
  pub may_join : HasRoom beyond r0 → ((n : ℕ) → IsNumbered (f n) n (n + size)) → HasWidth r2.width a × HasWidth r2.width b × (r2.width ≤ 64) × HasRows (Has a.last_inside.items) r2
  may_join room numbered =
      let front = rw (← fa.adds.width) at fa.shows in
      let now : HasRoom b.begins r2 = room_kept (room_left gb room) fa.adds (omega arith) in
      (width_of front, rw (fa.adds.width, gb.adds.width) (width_of gb.shows), now.few, has_rows {beyond = b.begins} (numbered a.begins) (omega arith) now front)

-- a part that may be left out
pub optional_added : {f : ℕ → Part} {size beyond : ℕ} {r0 r1 : Rows} {a r : Ends} → IsAdded f size beyond r0 r1 a → r.begins ≡ a.begins → Shows (optional (shown a)) (length a.first_inside.items) r →
    IsAdded (λ n. optional (f n)) size beyond r0 r1 r
optional_added fa begins shows = added_at begins fa.begins (shows_optional fa.shows (rw fa.shows.first_inside.0 at shows)) (adds_optional fa.adds)

-- a part again and again
pub again_added : {f : ℕ → Part} {size beyond : ℕ} {r0 r1 r2 : Rows} {a : Ends} → IsAdded f size beyond r0 r1 a → Adds (again (shown a)) r1 r2 → IsAdded (λ n. again (f n)) size beyond r0 r2 a
again_added fa crossed = record { begins = fa.begins; shows = shows_again fa.shows; adds = adds_again fa.shows fa.adds crossed }

-- the members from one place on
pub front : (members : List Tree) (left : ℕ) (member : Tree) → 0 < left → left ≤ length members → member ≡ get_or members (left - 1) member → drop (left - 1) members ≡ member ∷ drop left members
front members left member some within is =
    let lt : left - 1 < length members = omega arith in
    let next : suc (left - 1) ≡ left = omega arith in
    rw (drop-cons members (left - 1) member lt, next, ← is)

-- some of the members have no more positions than all of them
pub fewer : (k : ℕ) (members : List Tree) → positions (cat (map expression_of (drop k members))) ≤ positions (cat (map expression_of members))
fewer zero members = omega arith
fewer (suc k) [] = omega arith
fewer (suc k) (x ∷ members) = omega (arith, fewer k members)

-- the next member has room
pub member_fits : (members : List Tree) (left beyond begins : ℕ) (member : Tree) → 0 < left → left ≤ length members → member ≡ get_or members (left - 1) member →
    positions (cat (map expression_of members)) ≤ beyond → begins + positions (cat (map expression_of (drop left members))) ≡ beyond → positions (expression_of member) ≤ begins
member_fits members left beyond begins member some within is fits meet = omega (arith, rw (front members left member some within is) at (fewer (left - 1) members))

pub branch_fits : (branches : List Tree) (left beyond begins : ℕ) (branch : Tree) → 0 < left → left ≤ length branches → branch ≡ get_or branches (left - 1) branch →
    positions (alt (map expression_of branches)) ≤ beyond → begins + positions (alt (map expression_of (drop left branches))) ≡ beyond → positions (expression_of branch) ≤ begins
branch_fits branches left beyond begins branch some within is fits meet = member_fits branches left beyond begins branch some within is (omega (arith, positions-alt (map expression_of branches))) (omega (arith, positions-alt (map expression_of (drop left branches))))

-- what repeating a part asks for
pub may_repeat : {f : ℕ → Part} {size beyond : ℕ} {r0 r1 : Rows} {a : Ends} → IsAdded f size beyond r0 r1 a → HasRoom beyond r0 → ((n : ℕ) → IsNumbered (f n) n (n + size)) →
    HasWidth r1.width a × (r1.width ≤ 64) × HasRows (Has a.last_inside.items) r1
may_repeat {beyond = beyond} {r1 = r1} {a = a} fa room numbered =
    let shows = rw (← fa.adds.width) at fa.shows in
    let now : HasRoom beyond r1 = room_kept room fa.adds (omega arith) in
    (width_of shows, now.few, has_rows {beyond = beyond} (numbered a.begins) (omega arith) now shows)
