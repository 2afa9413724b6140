-- How far a text and a line begin with the same bytes: what a window that was found before says.
use Rattle.re_strings.proofs.Prelude.{◌≡◌, ◌↔◌, ℕ, ◌+◌, ◌<◌, ◌⊎◌, inl, inr, length, sym, arith, cases_lt, OccursAt, Text, CommonLength}

module _ (text line : Text) where
  -- the text stands where the length is its own
  pub stands_whole : {place n : ℕ} → CommonLength text line place n → OccursAt line text place ↔ (n ≡ length text)
  stands_whole {n = n} c = (
    (λ o.
        let short = c.agrees.short in
        elim (cases_lt n (length text)) [
          | inl less ↦ let fits = o.fits in absurd (c.stops less (omega arith) (sym (o.reads n less)))
          | inr all ↦ omega arith
        ]),
    (λ whole.
        let high = c.agrees.high in
        record {
          fits = omega arith;
          reads = λ j lt. sym (c.agrees.same j (omega arith));
        }),
  )

-- one more place is put, if the text stands there
pub one_place_put : (start : ℕ) {text line : Text} {place : ℕ} (n : ℕ) → CommonLength text line place n → (i m : ℕ)
    → ((i < place) × (m < start + (i + length text)) × OccursAt line text i ⊎ (i ≡ place) × (n ≡ length text) × (m < start + (place + n))) ↔ ((i < place + 1) × (m < start + (i + length text)) × OccursAt line text i)
one_place_put start {place = place} n c i m = (
  (λ h. elim h [
    | inl p ↦ let early = p.0 in (omega arith, p.1, p.2)
    | inr q ↦
        let here = q.0 in
        let whole = q.1 in
        let lt = q.2 in
        (omega arith, omega arith, rw here ((stands_whole _ _ c).1 whole))
  ]),
  (λ p.
      let (near, lt, o) = p in
      elim (cases_lt i place) [
        | inl early ↦ inl (early, lt, o)
        | inr late ↦
            let here : i ≡ place = omega arith in
            let whole = (stands_whole _ _ c).0 (rw here at o) in
            inr (here, whole, omega arith)
      ]),
)
