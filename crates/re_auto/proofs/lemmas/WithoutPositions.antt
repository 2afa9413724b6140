-- Expressions without positions, and where a repeated expression holds on the empty stretch.
use Rattle.re_auto.proofs.{Prelude.{◌≡◌, ℕ, zero, suc, ◌+◌, ◌-◌, ◌≤◌, Bool, true, false, nat_le, ◌⊎◌, inl, inr, ◌↔◌, Option, Some, None, IfSome, refl, arith, leb-true, le-leb, Expression, cat_more, alt_more, repeat, positions, Part, without_positions, again, copies_before, up_to, only_if, repeated, part_of}, lemmas.Numbered.part_numbered}

-- the part has no position
pub record HasNoPositions (part : Part) : Type 0 where
  pub first : (b : Bool) (q : ℕ) → ¬ part.first b q
  pub last : (z : Bool) (q : ℕ) → ¬ part.last z q
  pub follow : (p q : ℕ) → ¬ part.follow p q
  pub takes : (q c : ℕ) → ¬ part.takes q c

-- so one that says where it may be empty, and nothing more
pub bare : {E : Bool → Bool → Type 0} → HasNoPositions (without_positions E)
bare = record { first = λ b q h. h; last = λ z q h. h; follow = λ p q h. h; takes = λ q c h. h }

-- some number of turns is within the bounds, and is 0 or each turn may be empty
abbrev pub turns_empty : (Bool → Bool → Type 0) → ℕ → Option ℕ → Bool → Bool → Type 0
turns_empty E least most b z = IfSome most (λ top. least ≤ top) × ((least ≡ 0) ⊎ E b z)

-- an expression whose number of positions is 0 has none
pub no_positions : (e : Expression) (n : ℕ) → positions e ≡ 0 → HasNoPositions (part_of e n)
no_positions e n none =
    let numbered = part_numbered e n in
    record {
      first = λ b q w. omega (arith, numbered.first b q w);
      last = λ z q w. omega (arith, numbered.last z q w);
      follow = λ p q w. omega (arith, numbered.follow p q w);
      takes = λ q c w. omega (arith, numbered.takes q c w);
    }

module _ (part : ℕ → Part) (size : ℕ) (b z : Bool) (anywhere : (m n : ℕ) → (part m).empty b z → (part n).empty b z) where
  -- up to n copies may be empty
  up_to_empty : (turns from : ℕ) → (up_to part size turns from).empty b z
  up_to_empty zero from = tt
  up_to_empty (suc turns) from = tt

  -- copies that may be empty and a rest that may be empty are empty together
  copies_empty : (rest : ℕ → Part) → ((n : ℕ) → (rest n).empty b z) → (n turns from : ℕ) → (part n).empty b z → (copies_before part size turns rest from).empty b z
  copies_empty rest beyond n zero from h = beyond from
  copies_empty rest beyond n (suc turns) from h = (anywhere n from h, copies_empty rest beyond n turns (from + size) h)

  abbrev Between : ℕ → ℕ → ℕ → Part
  Between least most from = copies_before part size least (up_to part size (most - least)) from

  -- copies between two bounds may be empty where no copy is needed, or where a copy may be empty
  between_give : (n least most from : ℕ) → (least ≡ 0) ⊎ (part n).empty b z → (Between least most from).empty b z
  between_give n zero most from h = up_to_empty _ _
  between_give n (suc least) most from (inl h) = absurd (omega arith)
  between_give n (suc least) most from (inr h) = copies_empty (up_to part size (most - suc least)) (up_to_empty (most - suc least)) n (suc least) from h

  -- a repeated part may be empty where its turns may
  repeated_empty : (n least : ℕ) (most : Option ℕ) (from : ℕ) → turns_empty (part n).empty least most b z → (repeated part size least most from).empty b z
  repeated_empty n zero None from h = tt
  repeated_empty n (suc least) None from (w, inl h) = absurd (omega arith)
  repeated_empty n (suc least) None from (w, inr h) = copies_empty (λ m. again (part m)) (λ m. anywhere n m h) n _ _ h
  repeated_empty n least (Some most) from (w, h) = rw (le-leb least most w) (between_give n _ _ _ h)

  -- copies between two bounds may be empty only there
  between_need : (n least most from : ℕ) (c : Bool) → nat_le least most ≡ c → (only_if c (Between least most from)).empty b z → turns_empty (part n).empty least (Some most) b z
  between_need n least most from false is h = absurd h
  between_need n zero most from true is h = (leb-true zero most is, inl refl)
  between_need n (suc least) most from true is h = (leb-true (suc least) most is, inr (anywhere from n h.0))

  -- a repeated part is empty only where its turns may be
  empty_repeated : (n least : ℕ) (most : Option ℕ) (from : ℕ) → (repeated part size least most from).empty b z → turns_empty (part n).empty least most b z
  empty_repeated n zero None from h = (tt, inl refl)
  empty_repeated n (suc zero) None from h = (tt, inr (anywhere from n h))
  empty_repeated n (suc (suc least)) None from h = (tt, inr (anywhere from n h.0))
  empty_repeated n least (Some most) from h = between_need n _ _ _ _ refl h

-- whether an expression may be empty does not depend on the number of its first position
pub empty_anywhere : (e : Expression) (m n : ℕ) (b z : Bool) → (part_of e m).empty b z → (part_of e n).empty b z
empty_anywhere (cat_more e rest) m n b z (h, more) = (empty_anywhere e m n b z h, empty_anywhere rest (m + positions e) (n + positions e) b z more)
empty_anywhere (alt_more e rest) m n b z (inl h) = inl (empty_anywhere e m n b z h)
empty_anywhere (alt_more e rest) m n b z (inr h) = inr (empty_anywhere rest (m + positions e) (n + positions e) b z h)
empty_anywhere (repeat e least most) m n b z h = repeated_empty (part_of e) (positions e) b z (λ m n. empty_anywhere e m n b z) n least most n (empty_repeated (part_of e) (positions e) b z (λ m n. empty_anywhere e m n b z) n least most m h)
empty_anywhere _ m n b z h = h

-- a repeated expression holds on the empty stretch where its turns do
pub repeat_empty : (e : Expression) (least : ℕ) (most : Option ℕ) (n : ℕ) (b z : Bool) →
    (part_of (repeat e least most) n).empty b z ↔ turns_empty (part_of e n).empty least most b z
repeat_empty e least most n b z = (empty_repeated (part_of e) (positions e) b z (λ m n. empty_anywhere e m n b z) n least most n, repeated_empty (part_of e) (positions e) b z (λ m n. empty_anywhere e m n b z) n least most n)

-- a repeated expression without positions has none
pub repeat_no_positions : (e : Expression) (least : ℕ) (most : Option ℕ) → positions e ≡ 0 → positions (repeat e least most) ≡ 0
repeat_no_positions e least most none = rw none (omega arith)
