-- Where a part's chains of positions can run, and how one part's chains become another's.
use Rattle.{re_auto.proofs.Prelude.{◌≡◌, ℕ, zero, suc, ◌<◌, ◌≤◌, Bool, false, inl, inr, ◌++◌, length, slice_index, refl, arith, ne_eqb, length-append, get_or_append_left, Text, Part, is_begin, is_end, ByteAt, Reaches}, re_trees.proofs.lemmas.BestStretches.next_or_before}

-- a place after the first is not the first
pub not_at_begin : (k : ℕ) → 0 < k → is_begin k ≡ false
not_at_begin k h = ne_eqb k 0 (λ e. omega arith)

-- a place before the last is not the last
pub not_at_end : (line : Text) (k : ℕ) → k < length line → is_end line k ≡ false
not_at_end line k h = ne_eqb k (length line) (λ e. omega arith)

-- a chain reads at least one byte, and none after the line's end
pub reaches_bounds : (part : Part) (line : Text) (i j q : ℕ) → Reaches part line i j q → (i < j) × (j ≤ length line)
reaches_bounds part line i zero q r = absurd r
reaches_bounds part line i (suc j) q (t, inl (e, f)) = omega arith
reaches_bounds part line i (suc j) q (t, inr (p, r, w)) =
    let b = reaches_bounds part line i j p r in
    omega arith

-- a chain of one part goes on in another that has its steps, once its first position is reached
-- there
pub graft : (f h : Part) (line : Text) (i k : ℕ) → ((p q : ℕ) → f.follow p q → h.follow p q) →
    ((q c : ℕ) → f.takes q c → h.takes q c) →
    ((q : ℕ) → f.first (is_begin k) q → ByteAt (h.takes q) line k → Reaches h line i (suc k) q) → (j q : ℕ) →
    Reaches f line k j q → Reaches h line i j q
graft f h line i k follow takes start zero q r = absurd r
graft f h line i k follow takes start (suc j) q ((lt, t), inl (e, first)) =
    let here : (b : ℕ) → k ≡ b → f.first (is_begin b) q → ByteAt (h.takes q) line b → Reaches h line i (suc b) q = λ b same. rw same at (start q)
    in here j e first (lt, takes q _ t)
graft f h line i k follow takes start (suc j) q ((lt, t), inr (p, r, w)) = ((lt, takes q _ t), inr (p, graft f h line i k follow takes start j p r, follow p q w))

-- a chain of one part is a chain of any part that has its first positions and its steps
pub widen : (f h : Part) (line : Text) → ((b : Bool) (q : ℕ) → f.first b q → h.first b q) →
    ((p q : ℕ) → f.follow p q → h.follow p q) → ((q c : ℕ) → f.takes q c → h.takes q c) → (i j q : ℕ) →
    Reaches f line i j q → Reaches h line i j q
widen f h line first follow takes i j q r = graft f h line i i follow takes (λ q start t. (t, inl (refl, first (is_begin i) q start))) j q r

-- a chain passes each place on its way, and a position takes each of its bytes
pub passes : (part : Part) (line : Text) (i j k q : ℕ) → i < j → j ≤ k → Reaches part line i k q → (p : ℕ) × Reaches part line i j p
passes part line i j zero q lt le r = absurd r
passes part line i j (suc k) q lt le (t, before) = elim (next_or_before j k le) [
  | inl e ↦ (q, rw e (t, before))
  | inr small ↦ elim before [ inl (same, f) ↦ absurd (omega arith) | inr (p, r, w) ↦ passes part line i j k p lt small r ]
]

pub takes_each : (part : Part) (line : Text) (i j k q : ℕ) → i ≤ k → k < j → Reaches part line i j q → (p : ℕ) × part.takes p (slice_index line k)
takes_each part line i j k q low high r =
    let (p, here) = passes part line i (suc k) j q (omega arith) (omega arith) r in
    (p, here.0.1)

module _ (part : Part) (w rest : Text) where
  -- a chain over a front is one on each line that begins with it
  pub reaches_on : (i j q : ℕ) → j ≤ length w → Reaches part w i j q → Reaches part (w ++ rest) i j q
  reaches_on i zero q le r = absurd r
  reaches_on i (suc j) q le ((lt, t), before) =
      let within : j < length (w ++ rest) = let sum = length-append w rest in omega arith in
      let taken : part.takes q (slice_index (w ++ rest) j) = rw (get_or_append_left w rest 0 j lt) t in
      ((within, taken), elim before [ inl first ↦ inl first | inr (p, r, follows) ↦ inr (p, reaches_on i j p (omega arith) r, follows) ])

  -- a chain on such a line is one over the front, as far as that goes
  pub reaches_back : (i j q : ℕ) → j ≤ length w → Reaches part (w ++ rest) i j q → Reaches part w i j q
  reaches_back i zero q le r = absurd r
  reaches_back i (suc j) q le ((lt, t), before) =
      let within : j < length w = omega arith in
      let taken = rw (get_or_append_left w rest 0 j within) at t in
      ((within, taken), elim before [ inl first ↦ inl first | inr (p, r, follows) ↦ inr (p, reaches_back i j p (omega arith) r, follows) ])
