-- Lines of a block that have none of many strings.
use Rattle.{re_match.{proofs.{Prelude.{ℕ, Bool, true, false, length, get_or, arith, ◌≡◌, ◌+◌, ◌≤◌, List, [], ◌++◌, take, drop, Some, None, ap, ◌∙◌, length-append, Text, Expression, PassesUnmatched, IsBlock, PassesAll, ⊤, Matches, IsString, Occurs, EndsFirst, Literals, any_literal, key, keys, false≢true, length-map, map-append, take-append-le}, lemmas.SetMatches.occurs_decides}, specs.Working.Literals.keyed}, std.proofs.Math.Seq.{drop-append-add, take-append-add}, re_runs.proofs.lemmas.BlockLemmas.{passes_free_block, passes_free_front}}

-- ---- where a string ends

module _ (strings : List Text) (fold : Bool) where
  abbrev pub StringEnds : Text → ℕ → Type 0
  StringEnds bytes k = (i : ℕ) × Occurs strings 0 (keys fold bytes) i k

  size : (bytes : Text) → length (keys fold bytes) ≡ length bytes
  size bytes = length-map bytes (key fold)

  pub ends_within : (line : Text) (k : ℕ) → StringEnds line k → k ≤ length line
  ends_within line k (i, (low, some, within, is)) = omega (arith, size line)

  pub ends_before : (line after : Text) (k : ℕ) → StringEnds line k → StringEnds (line ++ after) k
  ends_before line after k (i, (low, some, within, is)) =
      let same : take k (keys fold (line ++ after)) ≡ take k (keys fold line) = cc (map-append (key fold) line after, take-append-le k (keys fold line) (keys fold after) within) in
      (i, (low, some, omega (arith, ap length (map-append (key fold) line after), length-append (keys fold line) (keys fold after)), rw same is))

  pub ends_after : (front line : Text) (k : ℕ) → StringEnds line k → StringEnds (front ++ line) (length front + k)
  ends_after front line k (i, (low, some, within, is)) =
      let joined = map-append (key fold) front line in
      let piece : drop (length front + i) (take (length front + k) (keys fold (front ++ line))) ≡ drop i (take k (keys fold line)) =
      rw (joined, ← size front) (cc (take-append-add (keys fold front) (keys fold line) k, drop-append-add (keys fold front) (take k (keys fold line)) i)) in
      (length front + i, (omega arith, omega arith, omega (arith, ap length joined, length-append (keys fold front) (keys fold line), size front), rw piece is))

-- ---- lines that are passed

module _ (l : Literals) (none_empty : IsString (keyed l) [] → ⊥) where
  abbrev strings : List Text
  strings = keyed l

  -- a line in which none ends is not matched
  unmatched : (line : Text) → ((k : ℕ) → ¬ StringEnds strings l.fold line k) → ¬ Matches (any_literal l) line false
  unmatched line free m = false≢true ((occurs_decides l _ none_empty ((λ h. absurd (false≢true h)), (λ (i, j, o). absurd (free j (i, o))))).1 m)

  -- where none is in the block, it is passed as a whole
  pub passes_set_block : (block : Text) → IsBlock block → EndsFirst strings (keys l.fold block) None → PassesUnmatched (any_literal l) false block (length block)
  passes_set_block block whole none =
      let (lines, rest, free, all, is, counted) =
      passes_free_block (StringEnds strings l.fold) (ends_within strings l.fold) (ends_before strings l.fold) (ends_after strings l.fold) block whole (λ k below (i, o). none i k o) in
      (lines, rest, free, λ i d below. unmatched _ (all i d below), is, counted)

  -- where one is, the lines before the one in which the first ends are passed
  pub passes_set_front : (block : Text) (end count : ℕ) → end ≤ length block → EndsFirst strings (keys l.fold block) (Some end) → PassesAll (λ _. ⊤) (take end block) count → PassesUnmatched (any_literal l) false block count
  passes_set_front block end count inside (there, first) front =
      let (lines, rest, free, all, is, counted) =
      passes_free_front (StringEnds strings l.fold) (ends_within strings l.fold) (ends_before strings l.fold) (ends_after strings l.fold) block end count inside (λ k below (i, o). first i k below o) front in
      (lines, rest, free, λ i d below. unmatched _ (all i d below), is, counted)

-- lines without a matched part aren't matched as a whole
pub passes_whole_too : (e : Expression) (whole : Bool) (block : Text) (count : ℕ) → PassesUnmatched e false block count → PassesUnmatched e whole block count
passes_whole_too e false block count passes = passes
passes_whole_too e true block count (lines, rest, free, none, is, counted) = (lines, rest, free, λ i d below holds. none i d below (0, length (get_or lines i d), omega arith, holds), is, counted)
