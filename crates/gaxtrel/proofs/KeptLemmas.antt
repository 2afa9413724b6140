-- What is kept stays right after a call, and how much it may search.
use Rattle.{gaxtrel.proofs.Prelude.{◌≡◌, ◌∙◌, ◌+◌, ◌*◌, ◌-◌, ◌/◌, ◌<◌, ◌≤◌, ◌↔◌, ℕ, suc, zero, Bool, List, ◌++◌, inl, inr, length, min, mul-le-mul_left, take, refl, arith, take-append_seam, AreAlike, AreSame, wants_whole, HaveRoom, Allows, Terms}, std.proofs.Math.Nat.{eq-or-lt_of_le, lt-mul-div-succ, mul-div-le}, grep_core.proofs.lemmas.CostLaws.same_length, re_search.{specs.declared.matcher.Matcher.Matcher, proofs.lemmas.KeptMatchers.still_alike}}

-- after a call on the matchers of a vector those that it keeps still agree on whether the whole line has to be matched, and have no more room
pub still_right : {whole : Bool} (before now after rest : List Matcher) (len : ℕ) → AreSame now after → now ≡ before → length now ≡ len
    → AreAlike whole before × HaveRoom before → AreAlike whole (take len (after ++ rest)) × HaveRoom (take len (after ++ rest))
still_right {whole} before now after rest len same was long (alike, rooms) =
    let all = same_length wants_whole after now same.same_wholes ∙ long in
    let is : take len (after ++ rest) ≡ after = cc (take-append_seam after rest) in
    let room : HaveRoom after = rw same.same_rooms (rw was rooms) in
    (rw is (still_alike same (rw was alike)), rw is room)

-- ---- how much may be searched

pub some_of : (n : ℕ) → (n ≡ 0 → ⊥) → 0 < n
some_of zero not = absurd (not refl)
some_of (suc n) not = omega arith

pub less_of : (m n : ℕ) → m ≤ n → (m ≡ n → ⊥) → m < n
less_of m n few not = elim (eq-or-lt_of_le few) [ inl e ↦ absurd (not e) | inr less ↦ less ]

module _ (t : Terms) where
  pub fewer : (n m : ℕ) → m ≤ n → Allows t n → Allows t m
  fewer n m less (inl none) = inl none
  fewer n m less (inr (inl none)) = inr (inl (omega arith))
  fewer n m less (inr (inr within)) =
      let more = mul-le-mul_left t.matchers (let one : m + 1 ≤ n + 1 = omega arith in one) in
      inr (inr (omega arith))

  -- all may be searched, if as many as may be are all
  pub all_may : (most bytes : ℕ) → most ≤ bytes → Allows t most → (most < bytes → Allows t (most + 1) → ⊥) → (most ≡ bytes) ↔ Allows t bytes
  all_may most bytes few within past = (
    (λ e. rw e at within),
    (λ may. elim (eq-or-lt_of_le few) [
      | inl e ↦ e
      | inr less ↦ absurd (past less (fewer _ _ (omega arith) may))
    ]),
  )

  module _ (k r bytes : ℕ) (same : t.matchers ≡ k) where
    -- as many as the limit has steps for
    pub within_limit : (q : ℕ) → q ≡ t.limit / k → r ≡ min bytes (q - 1) → Allows t r
    within_limit zero is cut = inr (inl (omega arith))
    within_limit (suc q) is cut =
        let low : t.matchers * suc q ≤ t.limit = rw same (rw is (mul-div-le t.limit k)) in
        let one : suc q ≡ q + 1 = omega arith in
        fewer q r (omega arith) (inr (inr (rw one at low)))

    pub past_limit : (q : ℕ) → q ≡ t.limit / k → r ≡ min bytes (q - 1) → 0 < k → (t.limit ≡ 0 → ⊥) → r < bytes → Allows t (r + 1) → ⊥
    past_limit q is cut some limited less (inl none) = limited none
    past_limit q is cut some limited less (inr (inl none)) = omega arith
    past_limit q is cut some limited less (inr (inr within)) =
        let above : t.limit < k * (q + 1) = rw is (lt-mul-div-succ t.limit some) in
        let more = mul-le-mul_left k (let low : q + 1 ≤ r + 1 + 1 = omega arith in low) in
        let most = rw same at within in
        omega arith
