-- The line of a block in which the first of many strings ends.
use Rattle.{re_match.{proofs.{Prelude.{◌≡◌, ℕ, ◌+◌, ◌-◌, ◌<◌, ◌≤◌, false, inl, inr, refl, All, Some, length, take, drop, get_or, slice_range, sym, ap, ◌∙◌, arith, length-drop, length-take, ⊤, Text, Matches, newline, terminated, HasNoNewline, IsLineFrom, PassesAll, IsString, Occurs, key, keys, EndsFirst, Literals, any_literal, eqb-true, get_or_append_left, get_or-drop, get_or-map, get_or-take, length-map}, lemmas.{StretchLaws.any_shift, SetMatches.stands_any}}, specs.Working.Literals.keyed}, re_runs.proofs.lemmas.{BlockLemmas.passed_within, CountedBlocks.more_follow, Looks.place_in_line, Ranges.length_range}, std.proofs.lemmas.Bool.cases_eq, re_strings.proofs.lemmas.KeyLaws.key_newline}
use native.Mathlib.Omega.{by_contra}

-- ---- the line around a string

-- before a line of a text there is a newline
newline_before : (bytes : Text) {start : ℕ} (k : ℕ) → PassesAll (λ _. ⊤) bytes start → k + 1 ≡ start → get_or bytes k 0 ≡ newline
newline_before bytes k (lines, rest, free, any, is, counted) e =
    let near : k < length (terminated lines) = omega arith in
    ap (λ l. get_or l k 0) is ∙ get_or_append_left (terminated lines) rest 0 k near ∙ elim (cases_eq (get_or (terminated lines) k 0) newline) [
      | inl here ↦ here
      | inr other ↦ absurd (omega (arith, more_follow (terminated lines) k (lines, free, refl) near other))
    ]

module _ (l : Literals) (free : All HasNoNewline (keyed l)) (block : Text) where
  -- no string goes over a newline
  over_newline : (i j n : ℕ) → i ≤ n → n < j → j ≤ length block → get_or block n 0 ≡ newline → IsString (keyed l) (drop i (take j (keys l.fold block))) → ⊥
  over_newline i j n low high within at (k, w, lt, there, is) =
      let bytes = keys l.fold block in let size = length-map block (key l.fold) in
      let place : i + (n - i) ≡ n = omega arith in let below : i + (n - i) < j = omega arith in
      let short : n - i < length (drop i (take j bytes)) = omega (arith, length-drop i (take j bytes), length-take j bytes) in
      let here : get_or bytes n 0 ≡ newline = get_or-map (key l.fold) block n 0 0 (omega arith) ∙ ap (key l.fold) at ∙ eqb-true (key l.fold newline) newline (key_newline l.fold newline) in
      let clean : HasNoNewline (drop i (take j bytes)) = rw (there ∙ is) at (free k w lt) in
      clean (n - i) 0 short (cc (get_or-drop i (take j bytes) (n - i) 0, get_or-take j bytes (i + (n - i)) 0 below))

  module _ (start stop : ℕ) (fits : stop ≤ length block) (front : PassesAll (λ _. ⊤) (take stop block) start) where
    start_low : start ≤ stop
    start_low = omega (arith, passed_within (λ _. ⊤) (take stop block) start front, length-take stop block)

    -- a string that ends there begins in the same line
    begins_in_line : (i : ℕ) → Occurs (keyed l) 0 (keys l.fold block) i stop → start ≤ i
    begins_in_line i (low, some, within, is) = by_contra _ _ (λ before.
        let last : start - 1 + 1 ≡ start = omega arith in let high : start - 1 < stop = omega (arith, start_low) in
        over_newline i _ _ (omega arith) high fits (sym (get_or-take stop block (start - 1) 0 high) ∙ newline_before (take stop block) (start - 1) front last) is)

    -- the line around the first end has a string
    pub set_around : (end : ℕ) → EndsFirst (keyed l) (keys l.fold block) (Some stop) → HasNoNewline (drop start (take stop block)) → IsLineFrom block start end → Matches (any_literal l) (slice_range block start end) false
    set_around end ((i, o), first) none cut =
        let low = begins_in_line i o in let near = place_in_line block start stop end fits start_low none cut in
        let size = length_range block start end (omega arith) in let from : start + (i - start) ≡ i = omega arith in
        let to : start + (stop - start) ≡ stop = omega (arith, start_low) in (
          i - start,
          stop - start,
          omega arith,
          (any_shift block start end (i - start) (stop - start) (omega (arith, cut.1)) (omega (arith, o.1)) (omega (arith, start_low)) l).1 (rw (from, to) (stands_any l block i stop (omega (arith, o.1)) fits o.3)),
        )
