-- What one read of bytes in memory gives.
use Rattle.{memory_files.proofs.Prelude.{◌≡◌, ℕ, zero, suc, ◌+◌, ◌-◌, ◌<◌, ◌≤◌, ◌^◌, min, nat_eq, false, if◌then◌else◌, Any, append-nil, List, [], ◌∷◌, ◌++◌, ◌⊎◌, inl, inr, length, take, drop, Option, Some, refl, sym, ap, ◌∙◌, arith, ne_eqb, length-take, length-append, take-append_seam, Consumes, IsAtEnd, Text, limited, one_more, count_more, Returns, MemoryFiles, MemoryReader, HasReturned, next_count, bytes_left, returned_by, IsSameHistory}, re_syntax.proofs.lemmas.{Decisions.Any-first, SomeOfJoined.{Any-left, Any-right}}}

take_nil : (k : ℕ) → take {A = ℕ} k [] ≡ []
take_nil zero = refl
take_nil (suc k) = refl

some_differs : (n : ℕ) → 0 < n → nat_eq n 0 ≡ false
some_differs n h = ne_eqb n 0 (λ none. let no : ⊥ = omega (arith, h, none) in no)

zero_or : (n : ℕ) → (n ≡ 0) ⊎ (0 < n)
zero_or zero = inl refl
zero_or (suc n) = inr (omega arith)

-- the first of the bytes that may be read, and then the others of them
split_left : (n left : ℕ) (rest : Text) → n ≤ left → n ≤ length rest → take left rest ≡ take n rest ++ take (left - n) (drop n rest)
split_left zero left rest a b = let same : left ≡ left - 0 = omega arith in ap (λ k. take k rest) same
split_left (suc n) zero rest a b = let no : ⊥ = omega (arith, a) in absurd no
split_left (suc n) (suc left) [] a b = let no : ⊥ = omega (arith, b) in absurd no
split_left (suc n) (suc left) (x ∷ xs) a b =
    let same : left - n ≡ suc left - suc n = omega arith in
    ap (λ t. x ∷ t) (split_left n left xs (omega (arith, a)) (omega (arith, b)) ∙ ap (λ k. take n xs ++ take k (drop n xs)) same)

module _ (room n : ℕ) (into copied : Text) (roomy : 0 < room) where
  -- the same for a reader none of whose reads has failed
  fresh_pulled : (step left : ℕ) (rest : Text) → (left ≡ 0 → ⊥) → n ≡ next_count room step left (length rest) → copied ≡ take n rest
      → Consumes (limited step left (Some rest)) (limited step (left - n) (Some (drop n rest))) (take n (copied ++ into)) × (n ≡ 0 → IsAtEnd (limited step (left - n) (Some (drop n rest))))
  fresh_pulled zero left rest more is copied_is =
      let none : n ≡ 0 = omega (arith, is) in
      (sym (ap (λ k. take k (copied ++ into) ++ []) none), λ _. refl)
  fresh_pulled (suc step) left rest more is copied_is = (moved, ended rest is)
    where
      short : length copied ≡ n
      short = let len = length-take n rest in let there : length (take n rest) ≡ n = omega (arith, is, len) in ap length copied_is ∙ there

      moved : take left rest ≡ take n (copied ++ into) ++ take (left - n) (drop n rest)
      moved =
          let front : take n (copied ++ into) ≡ take n rest = ap (λ k. take k (copied ++ into)) (sym short) ∙ take-append_seam copied into ∙ copied_is in
          split_left n left rest (omega (arith, is)) (omega (arith, is)) ∙ ap (λ t. t ++ take (left - n) (drop n rest)) (sym front)

      no_room : (left ≡ 0) ⊎ (0 < left) → (y : ℕ) (ys : Text) → n ≡ next_count room (suc step) left (length (y ∷ ys)) → n ≡ 0 → ⊥
      no_room (inl is_none) y ys made none = more is_none
      no_room (inr some) y ys made none = omega (arith, some, made, none, roomy)

      ended : (ys : Text) → n ≡ next_count room (suc step) left (length ys) → n ≡ 0 → take (left - n) (drop n ys) ≡ []
      ended [] made none = ap (λ k. take (left - n) (drop {A = ℕ} k [])) none ∙ take_nil (left - n)
      ended (y ∷ ys) made none =
          let no : ⊥ = no_room (zero_or left) y ys made none in absurd no

  pub pulled : (step left failed : ℕ) (rest beyond : Text) → failed ≤ 0 → (left ≡ 0 → ⊥) → n ≡ next_count room step left (length rest) → beyond ≡ drop n rest → copied ≡ take n rest
      → Consumes (if nat_eq failed 0 then limited step left (Some rest) else Some []) (if nat_eq failed 0 then limited step (left - n) (Some beyond) else Some []) (take n (copied ++ into))
      × (n ≡ 0 → IsAtEnd (if nat_eq failed 0 then limited step (left - n) (Some beyond) else Some []))
  pulled step left failed rest beyond none more is after_is copied_is =
      let fresh : failed ≡ 0 = omega (arith, none) in
      rw (fresh, after_is) (fresh_pulled step left rest more is copied_is)

-- ---- what the returned readers had left

-- a reader with a failed read has nothing left
spent : (r : MemoryReader) → (r.failures ≡ 0) ⊎ (bytes_left r ≡ Some [])
spent r = elim (zero_or r.failures) [
  | inl none ↦ inl none
  | inr some ↦ inr (let differs : nat_eq r.failures 0 ≡ false = some_differs r.failures some in rw differs refl)
]

module _ (returned broken after now : ℕ) where
  none_more : (before : List (Option Text)) → after ≡ returned → now ≡ broken → HasReturned returned broken before → HasReturned after now (before ++ [])
  none_more before same_returned same_broken h = rw (append-nil before, same_returned, same_broken) h

  one_more_back : (before : List (Option Text)) (failed : ℕ) (rest : Option Text) → after ≡ one_more returned → now ≡ count_more broken failed → (failed ≡ 0) ⊎ (rest ≡ Some []) → HasReturned returned broken before
      → HasReturned after now (before ++ rest ∷ [])
  one_more_back before failed rest one more spent h = (counted, reported spent h.1)
    where
      counted : after ≡ min (length (before ++ rest ∷ [])) (2 ^ 64 - 1)
      counted =
          let first : returned ≡ min (length before) (2 ^ 64 - 1) = h.0 in
          let len : length (before ++ rest ∷ []) ≡ length before + 1 = length-append before (rest ∷ []) in
          let last : after ≡ min (returned + 1) (2 ^ 64 - 1) = one in
          omega (arith, first, len, last)

      reported : (failed ≡ 0) ⊎ (rest ≡ Some []) → (broken ≡ 0) ⊎ Any (λ t. t ≡ Some []) before → (now ≡ 0) ⊎ Any (λ t. t ≡ Some []) (before ++ rest ∷ [])
      reported (inl none) (inl whole) = inl (more ∙ ap (count_more broken) none ∙ whole)
      reported (inl none) (inr some) = inr (Any-left (λ t. t ≡ Some []) before (rest ∷ []) some)
      reported (inr all) known = inr (Any-right (λ t. t ≡ Some []) before (rest ∷ []) (Any-first (λ t. t ≡ Some []) rest [] all))

-- nothing was returned
pub same_history : (old new : MemoryFiles) → IsSameHistory old new → Returns returned_by old new []
same_history old new same = λ before. none_more old.returned old.broken new.returned new.broken before same.0 same.1

-- a reader was returned
pub returned_readers : (old new : MemoryFiles) (r : MemoryReader) → new.returned ≡ one_more old.returned → new.broken ≡ count_more old.broken r.failures → Returns returned_by old new (bytes_left r ∷ [])
returned_readers old new r one more = λ before. one_more_back old.returned old.broken new.returned new.broken before r.failures (bytes_left r) one more (spent r)
