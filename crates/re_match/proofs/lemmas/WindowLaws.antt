-- The stretch of a line in which the next match is.
use Rattle.{re_match.{proofs.Prelude.{RunStandsAt, ◌≡◌, slice_index, slice_range, ℕ, ◌+◌, ◌-◌, ◌<◌, ◌≤◌, ◌↔◌, inl, inr, subst, false, None, IsTrue, List, Bool, [], ◌∷◌, length, drop, Some, arith, length-drop, length-take-le, cases_lt, dec_le, Text, Expression, Holds, IsFound, IsPart, Span, Needle, FindsRun, IsNeedleOf, runs_of, AddsEnds, FoundPast}, specs.{declared.window.Edges.Edges, Working.Aheads.{AreEdgesFor, BeginsLater, past}}}, re_trees.proofs.lemmas.{Decisions.Any-first, SomeOfJoined.Any-single}, re_auto.{specs.Working.{Beginnings.IsMarked, Positions.part_of}, proofs.lemmas.PositionsDecide.each_byte_taken}, re_runs.proofs.lemmas.RunLaws.{run_rest, run_whole}, re_ends.{specs.Working.GreatestEnds.{IsBorder, FindsIn}, proofs.lemmas.FoundEnds.adds_alike}}
use native.Mathlib.Omega.{by_contra}

-- a stretch is found from each place up to its start
pub from_place : (es : List Expression) (line : Text) (whole : Bool) (a b i j : ℕ) → b ≤ i → IsFound es line whole a i j → IsFound es line whole b i j
from_place es line whole a b i j begins f = record { begins = begins; not_empty = f.not_empty; on_line = f.on_line; is_whole = f.is_whole; holds = f.holds }

-- the next part from a later place on, where none begins before that
pub part_later : (es : List Expression) (line : Text) (whole : Bool) (from at : ℕ) → from ≤ at → ((i j : ℕ) → IsFound es line whole from i j → at ≤ i) → (i j : ℕ) → IsPart es line whole at i j → IsPart es line whole from i j
part_later es line whole from at low later i j p = record {
  found = from_place es line whole at from i j (omega arith) p.found;
  earliest = λ k l f. p.earliest k l (from_place es line whole from at k l (later k l f) f);
  longest = λ l f. p.longest l (from_place es line whole from at i l p.found.begins f);
}

module _ (e : Expression) (line : Text) where
  taken : {from i j : ℕ} (k : ℕ) → IsFound (e ∷ []) line false from i j → i ≤ k → k < j → (q : ℕ) × (part_of e 0).takes q (slice_index line k)
  taken {from} {i} {j} k f low high = each_byte_taken e line i j k low high (Any-single (λ x. Holds line x i j) e f.holds)

  pub border_within : (end : ℕ) → IsBorder e line end → end ≤ length line
  border_within end (inl same) = omega arith
  border_within end (inr (lt, none)) = omega arith

  -- no match goes over a border
  pub over_border : (from end i j : ℕ) → IsBorder e line end → IsFound (e ∷ []) line false from i j → i ≤ end → j ≤ end
  over_border from end i j (inl same) f low = omega arith
  over_border from end i j (inr (lt, none)) f low = elim (cases_lt end j) [
    | inl over ↦ let (q, t) = taken end f low over in absurd (none q t)
    | inr ge ↦ ge
  ]

  -- none begins at a byte that no match has
  pub later_by_run : (edges : Edges) → AreEdgesFor e edges → ((x : ℕ) → slice_index line x < 256) → (from start : ℕ) → from ≤ start → ((k : ℕ) → from ≤ k → k < start → ¬ IsMarked edges.bytes (slice_index line k)) → BeginsLater e line from start
  later_by_run edges right small from start low before = (low, λ i j f. by_contra _ _ (λ h. before i f.begins (omega arith) ((right.1 (slice_index line i) (small i)).1 (taken i f (omega arith) f.not_empty))))

  module _ (from near : ℕ) (needle : Needle) (of : IsNeedleOf e needle) (low : from ≤ near) (within : from ≤ length line) (next : FindsRun (drop from line) (runs_of needle.finder) (Some (near - from))) where
    -- no run is before the needle's next place
    none_before : (k : ℕ) → from ≤ k → RunStandsAt line (runs_of needle.finder) k → near ≤ k
    none_before k begins stands = by_contra _ _ (λ h. next.0.before (k - from) (omega arith) (omega arith) (run_rest (runs_of needle.finder) line from k begins stands))

    -- the needle has a byte there
    pub needle_inside : near < length line
    needle_inside =
        let (n, run, lt, at, is) = run_whole (runs_of needle.finder) line from (near - from) within next.1 in
        let some = subst (λ r. 1 ≤ length r) at (of.some n run lt) in omega arith

    -- where each match begins with the needle, none begins before that
    pub later_by_needle : IsTrue needle.is_first → BeginsLater e line from near
    later_by_needle first = (low, λ i j f. none_before i f.begins (of.first first line i j f.on_line (Any-single (λ x. Holds line x i j) e f.holds)))

    -- else none begins before the bytes of matches that come directly before it
    pub later_by_bytes : (edges : Edges) → AreEdgesFor e edges → ((x : ℕ) → slice_index line x < 256) → (start : ℕ) → from ≤ start → start ≤ near → (from < start → ¬ IsMarked edges.bytes (slice_index line (start - 1))) → BeginsLater e line from start
    later_by_bytes edges right small start after high outside = (
      after,
      λ i j f.
          let (m, at_or_after, (n, run, lt, at, (there, inside))) = of.needed line i j f.on_line (Any-single (λ x. Holds line x i j) e f.holds) in
          let some = subst (λ r. 1 ≤ length r) at (of.some n run lt) in
          let far = none_before m (omega arith) (n, run, lt, at, there) in
          by_contra _ _ (λ h. outside (omega arith) ((right.1 (slice_index line (start - 1)) (small (start - 1))).1 (taken _ f (omega arith) (omega arith)))),
    )

  module _ (from place start end : ℕ) (later : BeginsLater e line from place) (next : BeginsLater e line place start) (border : IsBorder e line end) where
    begins_on : {i j : ℕ} → IsFound (e ∷ []) line false from i j → start ≤ i
    begins_on {i} {j} f = next.1 i j (from_place (e ∷ []) line false from place i j (later.1 i j f) f)

    -- where none begins in the window, each begins after the byte that ends it
    pub later_on : FindsIn e line start end None → start ≤ end → end ≤ length line → BeginsLater e line from (past line end)
    later_on none low within = (
      omega arith,
      λ i j f. elim (dec_le i end) [
        | yes h ↦ absurd (none i 0 (begins_on f) (omega (arith, over_border from end i j border f h)) (j, omega arith, f.not_empty, f.on_line, Any-single (λ x. Holds line x i j) e f.holds))
        | no h ↦ omega arith
      ],
    )

    -- the first in the window is the next part
    pub first_part : (part : Span) → FindsIn e line start end (Some part) → IsPart (e ∷ []) line false from part.start part.end
    first_part part (low, inside, some, is, none) =
        let (j, past, lt, on, h) = (is (part.end - 1)).0 (omega arith) in
        let same : j ≡ part.end = omega (arith, past, to_end j lt on h) in
        record {
          found = record { begins = omega arith; not_empty = some; on_line = omega arith; is_whole = tt; holds = Any-first (λ x. Holds line x part.start part.end) e [] (rw same at h) };
          earliest = λ k l f. by_contra _ _ (λ h. none k 0 (begins_on f) (omega arith) (l, omega arith, f.not_empty, f.on_line, Any-single (λ x. Holds line x k l) e f.holds));
          longest = λ l f. to_end l f.not_empty f.on_line (Any-single (λ x. Holds line x part.start l) e f.holds);
        }
      where
        to_end : (l : ℕ) → part.start < l → l ≤ length line → Holds line e part.start l → l ≤ part.end
        to_end l lt on h = let past = (is (l - 1)).1 (l, omega arith, lt, on, h) in omega (arith, past)

-- a stretch of the window is found in it
module _ (e : Expression) (line : Text) (start end : ℕ) (low : start ≤ end) (border : IsBorder e line end)
    (shift : (i j : ℕ) → i < j → start + j ≤ end → Holds (slice_range line start end) e i j ↔ Holds line e (start + i) (start + j)) where
  long : length (slice_range line start end) ≡ end - start
  long = let within = border_within e line end border in length-take-le (end - start) (drop start line) (omega (arith, length-drop start line))

  pub found_within : (i m : ℕ) → i < length (slice_range line start end) → ((j : ℕ) × (m < start + j) × IsFound (e ∷ []) (slice_range line start end) false 0 i j) ↔ FoundPast (e ∷ []) line false (start + i) m
  found_within i m lt = (
    (λ (j, past, f).
        let within = border_within e line end border in (
          start + j,
          past,
          record {
            begins = omega arith;
            not_empty = omega arith;
            on_line = omega (arith, long);
            is_whole = tt;
            holds = Any-first (λ x. Holds line x (start + i) (start + j)) e [] ((shift i j f.not_empty (omega (arith, long))).0 (Any-single (λ x. Holds (slice_range line start end) x i j) e f.holds));
          },
        )),
    (λ (j, past, f).
        let over = over_border e line 0 end (start + i) j border f (omega (arith, long)) in
        let place : start + (j - start) ≡ j = omega arith in let later : i < j - start = omega arith in
        let fits : start + (j - start) ≤ end = omega arith in (
          j - start,
          omega (arith, past),
          record {
            begins = omega arith;
            not_empty = later;
            on_line = omega (arith, long);
            is_whole = tt;
            holds = Any-first (λ x. Holds (slice_range line start end) x i (j - start)) e [] ((shift i (j - start) later fits).1 (rw place (Any-single (λ x. Holds line x (start + i) j) e f.holds)));
          },
        )),
  )

-- the ends of a window's places
pub ends_of_window : (P : ℕ → ℕ → Type 0) (e : Expression) (line : Text) (start end : ℕ) → (start ≤ end) × IsBorder e line end → (old new : List ℕ) → length old ≡ end - start
    → ((i m : ℕ) → i < length (slice_range line start end) → P i m ↔ FoundPast (e ∷ []) line false (start + i) m) → AddsEnds P (slice_range line start end) old new → AddsEnds (λ i m. FoundPast (e ∷ []) line false (start + i) m) old old new
ends_of_window P e line start end window old new room alike added =
    let within = border_within e line end window.1 in
    let size : length (slice_range line start end) ≡ length old = omega (arith, length-take-le (end - start) (drop start line) (omega (arith, length-drop start line))) in
    let (long, at) = adds_alike _ _ (slice_range line start end) old new alike added in
    (omega (arith, long), λ i m lt. at i m (omega arith))
