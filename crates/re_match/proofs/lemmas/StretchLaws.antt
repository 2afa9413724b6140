-- Strings in a stretch of a line are those of the line.
use Rattle.{re_match.proofs.{Prelude.{false, ◌≡◌, ◌∙◌, ◌↔◌, ℕ, ◌+◌, ◌-◌, ◌<◌, ◌≤◌, inl, inr, [], ◌∷◌, length, take, drop, slice_range, sym, ap, arith, length-drop, length-take-le, drop-drop, Text, Holds, Literals, any_literal, key, keys, Look, One, Many, look_expression}, lemmas.SetMatches.{any_stands, stands_any}}, std.{proofs.{Math.Seq.take-take, lemmas.List.{drop-take, drop-map}}, specs.List.take-map}}

-- the bytes between two places
between : (line : Text) (a n i j : ℕ) → j ≤ n → drop i (take j (take n (drop a line))) ≡ drop (a + i) (take (a + j) line)
between line a n i j le = cc (take-take j n (drop a line) le ∙ sym (drop-take a j line), drop-drop i a (take (a + j) line))

-- and as they are compared
between_keys : (fold : _) (line : Text) (a n i j : ℕ) → j ≤ n → drop i (take j (keys fold (take n (drop a line)))) ≡ drop (a + i) (take (a + j) (keys fold line))
between_keys fold line a n i j le = cc (sym (take-map (key fold) n (drop a line)) ∙ ap (take n) (sym (drop-map (key fold) a line)), between _ a n i j le)

module _ (line : Text) (start end i j : ℕ) (within : end ≤ length line) (lt : i < j) (high : start + j ≤ end) where
  long : length (slice_range line start end) ≡ end - start
  long = length-take-le (end - start) (drop start line) (omega (arith, length-drop start line))

  pub any_shift : (l : Literals) → Holds (slice_range line start end) (any_literal l) i j ↔ Holds line (any_literal l) (start + i) (start + j)
  any_shift l =
      let same = between_keys l.fold line start (end - start) i j (omega arith) in (
        λ h. stands_any l line (start + i) (start + j) (omega arith) (omega arith) (rw (← same) (any_stands l _ i j (omega arith) (omega (arith, long)) h)),
        λ h. stands_any l (slice_range line start end) i j (omega arith) (omega (arith, long)) (rw same (any_stands l _ _ _ (omega arith) (omega arith) h)),
      )

  -- where strings are in it
  pub look_shift : (look : Look) → Holds (slice_range line start end) (look_expression look) i j ↔ Holds line (look_expression look) (start + i) (start + j)
  look_shift (One t) =
      let (on, back) = any_shift (record { texts = t ∷ []; fold = false }) in
      (λ h. elim (on (inl h)) [ inl is ↦ is | inr o ↦ absurd o ], λ h. elim (back (inl h)) [ inl is ↦ is | inr o ↦ absurd o ])
  look_shift (Many set) = any_shift _
