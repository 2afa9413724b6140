-- The first line from a place on that some pattern matches, or that none does.
use Rattle.line_chunks.proofs.{Prelude.{◌≡◌, ℕ, suc, zero, ◌+◌, ◌-◌, ◌<◌, ◌≤◌, Bool, true, false, not, List, [], ◌∷◌, length, get_or, refl, ap, arith, inl, inr, beq, if◌then◌else◌, KeptLine, no_line, is_matched, matched_count, all_of, IsPlace, chunks_of, Entry, get_or_past, cases_lt}, lemmas.{Joins.{line_of, size_at, begins_within, all_taken}, Sums.{matched_few, chunk_at, length-chunks_of}}}

-- ---- a chunk's count says of each of its lines what they all are

is_unset : (b : Bool) (n : ℕ) → (if b then 1 else 0) + n ≡ 0 → b ≡ false
is_unset false n e = refl
is_unset true n e = absurd (omega arith)

is_set : (b : Bool) (n m : ℕ) → n ≤ m → (if b then 1 else 0) + n ≡ suc m → b ≡ true
is_set true n m h e = refl
is_set false n m h e = absurd (omega arith)

pub none_matched : (xs : List KeptLine) → matched_count xs ≡ 0 → (k : ℕ) → k < length xs → is_matched (get_or xs k no_line) ≡ false
none_matched [] e k h = absurd (omega arith)
none_matched (x ∷ xs) e zero h = is_unset _ (matched_count xs) e
none_matched (x ∷ xs) e (suc k) h = none_matched xs (omega arith) k (omega arith)

pub all_matched : (xs : List KeptLine) → matched_count xs ≡ length xs → (k : ℕ) → k < length xs → is_matched (get_or xs k no_line) ≡ true
all_matched [] e k h = absurd (omega arith)
all_matched (x ∷ xs) e zero h = is_set _ (matched_count xs) (length xs) (matched_few xs) e
all_matched (x ∷ xs) e (suc k) h = all_matched xs (grind (arith, e, matched_few xs)) k (omega arith)

-- ---- a line that is not of the kind is passed

pub other_kind : (a b : Bool) → beq a b ≡ false → a ≡ not b
other_kind true true h = cc
other_kind true false h = refl
other_kind false true h = refl
other_kind false false h = cc

pub passed_next : (xs : List KeptLine) (from k : ℕ) {b : Bool} (m : Bool) → ((i : ℕ) → from ≤ i → i < k → is_matched (get_or xs i no_line) ≡ not m) → b ≡ is_matched (get_or xs k no_line) → beq b m ≡ false → (i : ℕ) → from ≤ i → i < k + 1 → is_matched (get_or xs i no_line) ≡ not m
passed_next xs from k {b} m so_far is differs i le lt = elim (cases_lt i k) [
  | inl early ↦ so_far i le early
  | inr late ↦ (
      let here : i ≡ k = omega arith in
      cc (other_kind b m differs))
]

-- ---- a chunk is passed up to one of its lines

module _ (es : List Entry) (place k offset from next : ℕ) (m : Bool) (e : Entry) (h : k < length es)
    (read : e ≡ get_or es k e) (is : IsPlace (chunks_of es) place k offset) (after : offset ≤ next) (within : next ≤ length e.chunk) where
  chunk_is : get_or (chunks_of es) k [] ≡ e.chunk
  chunk_is = cc (chunk_at es k e h)

  pub here : IsPlace (chunks_of es) (place + (next - offset)) k next
  here = record {
    place_is = omega arith;
    offset_within = omega (arith, ap length chunk_is);
    chunk_within = is.chunk_within;
  }

  line_is : (i : ℕ) → place ≤ i → i < place + length e.chunk - offset → get_or (all_of (chunks_of es)) i no_line ≡ get_or e.chunk (offset + (i - place)) no_line
  line_is i le lt =
      let size = ap length chunk_is in
      let at : IsPlace (chunks_of es) i k (offset + (i - place)) = record {
        place_is = omega arith;
        offset_within = omega arith;
        chunk_within = is.chunk_within;
      } in
      cc (line_of (chunks_of es) i k (offset + (i - place)) no_line at (omega arith), chunk_is)

  pub passed_on : ((i : ℕ) → offset ≤ i → i < next → is_matched (get_or e.chunk i no_line) ≡ not m) → ((i : ℕ) → from ≤ i → i < place → is_matched (get_or (all_of (chunks_of es)) i no_line) ≡ not m) → (i : ℕ) → from ≤ i → i < place + (next - offset) → is_matched (get_or (all_of (chunks_of es)) i no_line) ≡ not m
  passed_on passed so_far i le lt = elim (cases_lt i place) [
    | inl early ↦ so_far i le early
    | inr late ↦ cc (line_is i late (omega arith), passed (offset + (i - place)) (omega arith) (omega arith))
  ]

  pub found_there : next < length e.chunk → is_matched (get_or e.chunk next no_line) ≡ m → is_matched (get_or (all_of (chunks_of es)) (place + (next - offset)) no_line) ≡ m
  found_there lt found = let same : offset + (place + (next - offset) - place) ≡ next = omega arith in cc (line_is (place + (next - offset)) (omega arith) (omega arith))

  pub next_chunk : length e.chunk ≤ next → IsPlace (chunks_of es) (place + (next - offset)) (k + 1) 0
  next_chunk all =
      let size = size_at (chunks_of es) k in
      let same = ap length chunk_is in
      record {
        place_is = omega arith;
        offset_within = omega arith;
        chunk_within = omega (arith, length-chunks_of es);
      }

  pub next_within : place + (next - offset) ≤ length (all_of (chunks_of es))
  next_within =
      let size = size_at (chunks_of es) k in
      let same = ap length chunk_is in
      omega (arith, begins_within (chunks_of es) (k + 1))

-- behind the last chunk all lines are passed
pub all_passed : (es : List Entry) {place k offset : ℕ} → IsPlace (chunks_of es) place k offset → length es ≤ k → place ≡ length (all_of (chunks_of es))
all_passed es {k = k} is end =
    let past : length (chunks_of es) ≤ k = omega (arith, length-chunks_of es) in
    let none = ap length (get_or_past (chunks_of es) k [] past) in
    omega (arith, all_taken (chunks_of es) k past)
