-- The numbers of a part's positions: they fill a range whose length is the expression's number of
-- positions.
use Rattle.re_auto.proofs.Prelude.{◌≡◌, ℕ, zero, suc, ◌+◌, ◌-◌, ◌*◌, ◌<◌, ◌≤◌, Bool, true, false, nat_le, Option, Some, None, max, refl, arith, leb-true, add-mul, Expression, one_of, none_of, cat_more, alt_more, repeat, positions, copies, Part, without_positions, one_position, joined, in_turn, either, again, optional, copies_before, up_to, only_if, repeated, part_of}

-- each position of the part has a number from `from` to before `to`
pub record IsNumbered (part : Part) (from to : ℕ) : Type 0 where
  pub first : (b : Bool) (q : ℕ) → part.first b q → (from ≤ q) × (q < to)
  pub last : (z : Bool) (q : ℕ) → part.last z q → (from ≤ q) × (q < to)
  pub follow : (p q : ℕ) → part.follow p q → (from ≤ p) × (p < to) × (from ≤ q) × (q < to)
  pub takes : (q c : ℕ) → part.takes q c → (from ≤ q) × (q < to)

-- a part without positions has any range
pub without_numbered : {E : Bool → Bool → Type 0} {from to : ℕ} → IsNumbered (without_positions E) from to
without_numbered = record { first = λ b q. absurd; last = λ z q. absurd; follow = λ p q. absurd; takes = λ q c. absurd }

-- one position has the range of its number
pub one_numbered : {n : ℕ} {P : ℕ → Type 0} → IsNumbered (one_position n P) n (n + 1)
one_numbered = record { first = λ b q w. omega arith; last = λ z q w. omega arith; follow = λ p q. absurd; takes = λ q c w. omega arith }

-- a part again and again keeps its range
pub again_numbered : {f : Part} {from to : ℕ} → IsNumbered f from to → IsNumbered (again f) from to
again_numbered nf = record { first = nf.first; last = nf.last; follow = λ p q. grind (arith, nf.follow p q, nf.last false p, nf.first false q); takes = nf.takes }

-- a part that may be left out keeps its range
pub optional_numbered : {f : Part} {from to : ℕ} → IsNumbered f from to → IsNumbered (optional f) from to
optional_numbered nf = assumption

module _ {f g : Part} {n : ℕ} (size more : ℕ) (nf : IsNumbered f n (n + size)) (ng : IsNumbered g (n + size) (n + size + more)) where
  -- joined parts have both ranges
  joined_numbered : {Skip : Bool → Type 0} {Cross : Type 0} {E : Bool → Bool → Type 0} {L : Bool → ℕ → Type 0} →
      ((z : Bool) (q : ℕ) → L z q → (n ≤ q) × (q < n + (size + more))) → IsNumbered (joined f g Skip Cross E L) n (n + (size + more))
  joined_numbered last = record {
    first = λ b q. grind (arith, nf.first b q, ng.first b q);
    last = last;
    follow = λ p q. grind (arith, nf.follow p q, ng.follow p q, nf.last false p, ng.first false q);
    takes = λ q c. grind (arith, nf.takes q c, ng.takes q c);
  }

  -- two parts in turn have both ranges
  pub in_turn_numbered : IsNumbered (in_turn f g) n (n + (size + more))
  in_turn_numbered = joined_numbered (λ z q. grind (arith, ng.last z q, nf.last z q))

  -- a choice of two parts has both ranges
  pub either_numbered : IsNumbered (either f g) n (n + (size + more))
  either_numbered = joined_numbered (λ z q. grind (arith, nf.last z q, ng.last z q))

module _ (part : ℕ → Part) (size : ℕ) (numbered : (n : ℕ) → IsNumbered (part n) n (n + size)) where
  -- `turns` copies and a rest have the range of all of them
  pub copies_before_numbered : (rest : ℕ → Part) (more : ℕ) → ((n : ℕ) → IsNumbered (rest n) n (n + more)) →
      (turns from : ℕ) → IsNumbered (copies_before part size turns rest from) from (from + (turns * size + more))
  copies_before_numbered rest more beyond zero from = let e : 0 * size + more ≡ more = omega arith in rw e (beyond from)
  copies_before_numbered rest more beyond (suc turns) from =
      let e : suc turns * size + more ≡ size + (turns * size + more) = omega arith in
      rw e (in_turn_numbered size (turns * size + more) (numbered from) (copies_before_numbered rest more beyond turns (from + size)))

  -- up to `turns` copies have the range of that number of copies
  pub up_to_numbered : (turns from : ℕ) → IsNumbered (up_to part size turns from) from (from + turns * size)
  up_to_numbered zero from = without_numbered
  up_to_numbered (suc turns) from =
      let e : suc turns * size ≡ size + turns * size = omega arith in
      rw e (optional_numbered (in_turn_numbered size (turns * size) (numbered from) (up_to_numbered turns (from + size))))

  -- copies between two bounds have the range of the upper one, also where the part never holds
  between_numbered : (b : Bool) (least most from : ℕ) → nat_le least most ≡ b →
      IsNumbered (only_if b (copies_before part size least (up_to part size (most - least)) from)) from (from + most * size)
  between_numbered false least most from is = without_numbered
  between_numbered true least most from is =
      let bound = leb-true least most is in
      let split : most ≡ least + (most - least) = omega arith in
      let all : most * size ≡ least * size + (most - least) * size = cc (add-mul least (most - least) size) in
      rw all (copies_before_numbered (up_to part size (most - least)) _ (up_to_numbered (most - least)) _ _)

  -- a repeated part has the range of its copies
  repeated_numbered : (least : ℕ) (most : Option ℕ) (from : ℕ) → IsNumbered (repeated part size least most from) from (from + copies least most * size)
  repeated_numbered zero None from = let e : max 0 1 * size ≡ size = omega arith in rw e (optional_numbered (again_numbered (numbered from)))
  repeated_numbered (suc least) None from =
      let m : max (suc least) 1 ≡ suc least = omega arith in
      let e : suc least * size ≡ least * size + size = omega arith in
      rw (m, e) (copies_before_numbered (λ m. again (part m)) _ (λ m. again_numbered (numbered m)) _ _)
  repeated_numbered least (Some most) from = between_numbered _ _ _ _ refl

-- the numbers of an expression's positions begin at n, and are as many as its positions
pub part_numbered : (e : Expression) (n : ℕ) → IsNumbered (part_of e n) n (n + positions e)
part_numbered (one_of s) n = one_numbered
part_numbered (none_of s) n = one_numbered
part_numbered (cat_more e rest) n = in_turn_numbered (positions e) (positions rest) (part_numbered e n) (part_numbered rest (n + positions e))
part_numbered (alt_more e rest) n = either_numbered (positions e) (positions rest) (part_numbered e n) (part_numbered rest (n + positions e))
part_numbered (repeat e least most) n = repeated_numbered (part_of e) (positions e) (part_numbered e) least most n
part_numbered _ n = without_numbered
