use Rattle.{grep_io.proofs.{Prelude.{◌≡◌, ℕ, List, map, ◌+◌, ◌*◌, ◌-◌, ◌≤◌, length, sym, ap, ◌∙◌, map-id, Fits, w8, w16, arith, lit≤, zero-le, Each1, sum_l, is_byte, places_between, newline, bytes_below, Each1-zip2, Each1-replicate, Each2-of, length-chunk, sum-zip2, sum_bound, sum_fits, fold-sum, widens, length-map}, lemmas.NewlineLanes.{sum_of_ones, small_ones, places_joined}}, memchr.{specs.Find.places_from, proofs.lemmas.PlaceLemmas.places_between-none}}
use Rattle.grep_io.proofs.input.newlines.newlines_in_vectors.Goals as goal

pub vectors-init : goal.vectors-init
vectors-init c = record {
  few = Each1-replicate (λ a. a ≤ 0) 64 0 zero-le;
  counted = sym (rw (places_between-none (is_byte newline) c.args.bytes.now c.args.from (c.args.from + 0) (omega arith) (λ k a b. absurd (omega arith))));
}

ones : (c : goal.After-row_known-in-vectors-1) → Each1 (λ a. a ≤ 1) c.newlines_at-counts.result
ones c = rw c.newlines_at-counts.ensures (small_ones newline _)

pub overflow_add-counts : goal.overflow_add-counts
overflow_add-counts c = Each2-of (λ a. a ≤ c.vectors.place) (λ a. a ≤ 1) (λ a b. Fits w8 (a + b)) (λ a b le le'. record { fits = omega arith }) c.vectors.counts c.newlines_at-counts.result c.vectors.invariant.few (ones c)

pub vectors-preserved : goal.vectors-preserved
vectors-preserved c =
    let bytes = c.args.bytes.now in
    let here = c.args.from + 64 * c.vectors.place in
    let new = c.newlines_at-counts.result in
    let within : here + 64 ≤ length bytes = omega arith in
    let long = ap length c.newlines_at-counts.ensures ∙ length-map _ _ ∙ length-chunk here 64 bytes within in
    let count : 64 ≡ c.args.from + 64 * (c.vectors.place + 1) - here = omega arith in
    record {
      few = Each1-zip2 (λ a b. a + b) (λ a. a ≤ c.vectors.place + 1) c.vectors.counts new
          (Each2-of (λ a. a ≤ c.vectors.place) (λ a. a ≤ 1) (λ a b. a + b ≤ c.vectors.place + 1) (λ a b le le'. omega arith) c.vectors.counts new c.vectors.invariant.few (ones c));
      counted = cc (sum-zip2 c.vectors.counts new (c.vectors.auto.counts.0 ∙ sym long), c.vectors.invariant.counted, ap sum_l c.newlines_at-counts.ensures ∙ sum_of_ones newline bytes here 64 within ∙ ap (λ n. length (places_from (is_byte newline) bytes here n)) count, places_joined (is_byte newline) bytes c.args.from here (c.args.from + 64 * (c.vectors.place + 1)) (omega arith) (omega arith));
    }

pub overflow_cast-result : goal.overflow_cast-result
overflow_cast-result c = widens w8 w16 (lit≤ tt) c.vectors.counts c.vectors.auto.counts.1

-- the lanes are the same in words
widened : (xs : List ℕ) → sum_l (map (λ x. x) xs) ≡ sum_l xs
widened xs = rw (map-id xs)

pub overflow_add-result : goal.overflow_add-result
overflow_add-result c =
    let most = sum_bound 255 c.vectors.counts (bytes_below c.vectors.counts c.vectors.auto.counts.1) in
    let long : 255 * length c.vectors.counts ≡ 16320 = rw c.vectors.auto.counts.0 in
    sum_fits w16 0 _ (omega (arith, widened c.vectors.counts))

pub returns : goal.returns
returns c =
    let ends : c.vectors.place ≡ c.args.vectors = omega arith in
    let all : 0 + sum_l c.vectors.counts ≡ sum_l c.vectors.counts = omega arith in
    fold-sum 0 _ ∙ ap (λ n. 0 + n) (widened c.vectors.counts) ∙ all ∙ c.vectors.invariant.counted ∙ ap (λ k. length (places_between (is_byte newline) c.args.bytes.now c.args.from (c.args.from + 64 * k))) ends
