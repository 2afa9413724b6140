-- Parts joined to one another, by what their ends show and what was added to the rows.
use Rattle.re_auto.proofs.{Prelude.{◌≡◌, ℕ, suc, ◌+◌, ◌≤◌, Bool, true, false, IsTrue, ◌⊎◌, ◌↔◌, refl, ◌∙◌, arith, mul-le-mul_right, ⊤, rfl, and, trans, Ends, Rows, Empty, SaysEmpty, Has, Part, without_positions, in_turn, either, again, optional, Shows, Adds, HasRoom, HasWidth, HasRows, IsAdded, empty_at, shown}, lemmas.{BitLemmas.{one_of, or_never}, Numbered.IsNumbered, WithoutPositions.HasNoPositions}}

-- a condition that always holds says nothing
pub skipped : {A B C : Type 0} → (B ↔ (A ⊎ C)) → B ↔ (A ⊎ ⊤ × C)
skipped h = grind arith

-- what holds is always so; what does not hold is never so
pub always : {A : Type 0} → A → A ↔ ⊤
always a = (λ h. tt, λ h. a)

pub never_holds : {A : Type 0} → ¬ A → A ↔ ⊥
never_holds n = (n, absurd)

-- facts that never hold are equivalent
pub neither : {A B : Type 0} → ¬ A → ¬ B → A ↔ B
neither a b = grind arith

-- where a part is empty, by the kinds of places
pub says_empty : {part : Part} {empty : Empty} → ((b z : Bool) → IsTrue (empty_at empty b z) ↔ part.empty b z) → SaysEmpty part empty
says_empty same = record { on_empty_line = same true true; at_begin = same true false; at_end = same false true; inside = same false false }

-- what the ends show, by the kinds of places
module _ {f : Part} {width : ℕ} {a : Ends} (s : Shows f width a) where
  first_of : (b : Bool) (q : ℕ) → (shown a).first b q ↔ f.first b q
  first_of true = s.first_at_begin.1
  first_of false = s.first_inside.1

  last_of : (z : Bool) (q : ℕ) → (shown a).last z q ↔ f.last z q
  last_of true = s.last_at_end.1
  last_of false = s.last_inside.1

  empty_of : (b z : Bool) → (shown a).empty b z ↔ f.empty b z
  empty_of true true = s.empty.on_empty_line
  empty_of true false = s.empty.at_begin
  empty_of false true = s.empty.at_end
  empty_of false false = s.empty.inside

  -- each of a part's sets has `width` words
  pub width_of : HasWidth width a
  width_of = assumption

  -- a part again and again has the ends of the part
  pub shows_again : Shows (again f) width a
  shows_again = assumption

-- the ends of a part are those of an equivalent one
pub shows_as : {f g : Part} {width : ℕ} {a : Ends} → ((b : Bool) (q : ℕ) → f.first b q ↔ g.first b q) → ((z : Bool) (q : ℕ) → f.last z q ↔ g.last z q) →
    ((b z : Bool) → f.empty b z ↔ g.empty b z) → Shows f width a → Shows g width a
shows_as first last empty s = record {
  first_at_begin = (s.first_at_begin.0, λ q. trans (s.first_at_begin.1 q) (first true q));
  first_inside = (s.first_inside.0, λ q. trans (s.first_inside.1 q) (first false q));
  last_at_end = (s.last_at_end.0, λ q. trans (s.last_at_end.1 q) (last true q));
  last_inside = (s.last_inside.0, λ q. trans (s.last_inside.1 q) (last false q));
  empty = says_empty (λ b z. trans (empty_of s b z) (empty b z));
}

-- the ends of two parts in turn show those parts in turn
pub shows_in_turn : {f g : Part} {width : ℕ} {a b r : Ends} → Shows f width a → Shows g width b → Shows (in_turn (shown a) (shown b)) width r → Shows (in_turn f g) width r
shows_in_turn fa gb =
    shows_as (λ b q. one_of (first_of fa b q) (and (empty_of fa b false) (first_of gb b q)))
    (λ z q. one_of (last_of gb z q) (and (empty_of gb false z) (last_of fa z q)))
    (λ b z. and (empty_of fa b z) (empty_of gb b z))

-- the ends of either of two parts
pub shows_either : {f g : Part} {width : ℕ} {a b r : Ends} → Shows f width a → Shows g width b → Shows (either (shown a) (shown b)) width r → Shows (either f g) width r
shows_either fa gb =
    shows_as (λ b q. one_of (first_of fa b q) (and rfl (first_of gb b q)))
    (λ z q. one_of (last_of fa z q) (last_of gb z q))
    (λ b z. one_of (empty_of fa b z) (empty_of gb b z))

-- the ends of a part that may be left out
pub shows_optional : {f : Part} {width : ℕ} {a r : Ends} → Shows f width a → Shows (optional (shown a)) width r → Shows (optional f) width r
shows_optional fa = shows_as (first_of fa) (last_of fa) (λ b z. rfl)

-- a part without positions shows and adds nothing but where it may be empty
pub blank_as : {p : ℕ → Part} {E : Bool → Bool → Type 0} {size beyond : ℕ} {rows : Rows} {a : Ends} → HasNoPositions (p a.begins) → ((b z : Bool) → E b z ↔ (p a.begins).empty b z) →
    a.begins + size ≡ beyond → Shows (without_positions E) rows.width a → IsAdded p size beyond rows rows a
blank_as none same begins shows = record {
  begins = begins;
  shows = shows_as (λ b q. neither (λ h. h) (none.first b q)) (λ z q. neither (λ h. h) (none.last z q)) same shows;
  adds = record { width = refl; follow_length = refl; takes_length = refl; follow = λ p q within. or_never (none.follow p q); takes = λ c q lt. or_never (none.takes q c) };
}

-- two additions, where the second is to the rows of the first, are one addition of what both parts say
joined_up : {A B C F G W : Type 0} → A ↔ (B ⊎ F) → B ↔ (C ⊎ G) → (G ⊎ F) ↔ W → A ↔ (C ⊎ W)
joined_up f g both = grind arith

pub both_added : {f g whole : Part} {r0 r1 r2 : Rows} → Adds g r0 r1 → Adds f r1 r2 →
    ((p q : ℕ) → (g.follow p q ⊎ f.follow p q) ↔ whole.follow p q) → ((q c : ℕ) → (g.takes q c ⊎ f.takes q c) ↔ whole.takes q c) → Adds whole r0 r2
both_added ga fa follow takes = record {
  width = fa.width ∙ ga.width;
  follow_length = fa.follow_length ∙ ga.follow_length;
  takes_length = fa.takes_length ∙ ga.takes_length;
  follow = λ p q within. joined_up (rw ga.width at (fa.follow p q (rw (ga.width, ga.follow_length) within))) (ga.follow p q within) (follow p q);
  takes = λ c q lt. joined_up (rw ga.width at (fa.takes c q lt)) (ga.takes c q lt) (takes q c);
}

-- a choice between two parts adds both
pub adds_either : {f g : Part} {r0 r1 r2 : Rows} → Adds g r0 r1 → Adds f r1 r2 → Adds (either f g) r0 r2
adds_either ga fa = both_added ga fa (λ p q. grind arith) (λ q c. grind arith)

-- two parts in turn add both, and that the second can follow the first
pub adds_in_turn : {f g : Part} {width : ℕ} {a b : Ends} {r0 r1 r2 r3 : Rows} → Shows f width a → Shows g width b →
    Adds g r0 r1 → Adds f r1 r2 → Adds (in_turn (shown a) (shown b)) r2 r3 → Adds (in_turn f g) r0 r3
adds_in_turn {f = f} {g = g} fs gs ga fa crossed =
    both_added (adds_either {f = f} {g = g} ga fa) crossed
    (λ p q. let ends = and (fs.last_inside.1 p) (gs.first_inside.1 q) in grind arith)
    (λ q c. grind arith)

-- a part again and again adds the part, and that it can follow itself
pub adds_again : {f : Part} {width : ℕ} {a : Ends} {r0 r1 r2 : Rows} → Shows f width a → Adds f r0 r1 → Adds (again (shown a)) r1 r2 → Adds (again f) r0 r2
adds_again fs fa crossed =
    both_added fa crossed
    (λ p q. let ends = and (fs.last_inside.1 p) (fs.first_inside.1 q) in grind arith)
    (λ q c. grind arith)

-- a part that may be left out adds the part
pub adds_optional : {f : Part} {r0 r1 : Rows} → Adds f r0 r1 → Adds (optional f) r0 r1
adds_optional fa = assumption

-- the room stays, also for fewer numbers
pub room_kept : {part : Part} {beyond below : ℕ} {old new : Rows} → HasRoom beyond old → Adds part old new → below ≤ beyond → HasRoom below new
room_kept {old = old} room adds le = record {
  few = rw adds.width room.few;
  numbers = rw adds.width (omega arith);
  follow = rw (adds.width, adds.follow_length) (omega (arith, mul-le-mul_right old.width le));
  takes = rw (adds.width, adds.takes_length) room.takes;
}

-- the positions of a part before `beyond` have rows
pub has_rows : {part : Part} {from to beyond : ℕ} {rows : Rows} {a : Ends} → IsNumbered part from to → to ≤ beyond → HasRoom beyond rows → Shows part rows.width a → HasRows (Has a.last_inside.items) rows
has_rows {beyond = beyond} {rows = rows} numbered le room shows p h =
    let lt : suc p ≤ beyond = omega (arith, numbered.last false p ((shows.last_inside.1 p).0 h)) in
    omega (arith, mul-le-mul_right rows.width lt)
