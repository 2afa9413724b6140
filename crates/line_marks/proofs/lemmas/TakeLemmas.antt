-- A stretch that takes the place of others: one more, and the lines after them.
use Rattle.line_marks.proofs.{Prelude.{◌≡◌, ℕ, ◌+◌, ◌-◌, ◌^◌, ◌<◌, ◌≤◌, List, [], ◌∷◌, length, drop, get_or, slice_get, Option, None, Some, refl, inl, inr, arith, drop_more, drop_all, Stretch, Touched, Covers, AreCounted, HasLead, led, Takes}, lemmas.CoverLemmas.{at, both, wide, covers_more, idle_covers, both_cover, wide_covers, led_none, led_more, lead_more, lead_none}}

-- ---- the first

pub no_first : (lead : ℕ) (stretches : List Stretch) → ◌≡◌ {A = Option Stretch} None (slice_get stretches 0) → HasLead lead stretches
no_first _ [] _ = tt
no_first lead (s ∷ more) is = absurd (cc)

pub far_first : (lead : ℕ) (stretches : List Stretch) (first : Stretch) → Some first ≡ slice_get stretches 0 → lead ≤ first.kept → HasLead lead stretches
far_first _ [] _ _ _ = tt
far_first lead (s ∷ more) first is far = let same : first ≡ s = cc in rw same at far

pub takes_idle : {start : ℕ} (old : List Stretch) (all : Touched) → HasLead start old → all.one ≡ at start 0 0 → all.many ≡ 0 → all.lead ≡ start → Takes start start start old all
takes_idle {start} old all lead one many led_is = record {
  within = omega arith;
  lead = rw (many, led_is) lead;
  few_lead = rw one (omega arith);
  begins = rw one (omega arith);
  reaches = rw one (omega arith);
  covers = rw (one, many, led_is) (idle_covers start old lead start (omega arith));
}

pub takes_wider : {start : ℕ} (end : ℕ) {old : List Stretch} {all : Touched} → start ≤ end → Takes start start start old all → Takes start end start old all
takes_wider end le t = record {
  within = t.within;
  lead = t.lead;
  few_lead = t.few_lead;
  begins = t.begins;
  reaches = t.reaches;
  covers =
      (let c = t.covers in
      record {
        fits = λ known lines within. c.fits known lines (omega arith);
        only = c.only;
        all = λ line now out. c.all line now (elim out [
          | inl o ↦ inl o
          | inr o ↦ inr (omega arith)
        ]);
        before = c.before;
        after = λ place high. c.after place (omega arith);
      });
}

-- ---- the next

module _ (start end : ℕ) (old : List Stretch) (all : Touched) (t : Takes start end start old all) where
  module _ (k : ℕ) (d : Stretch) (many : all.many ≡ k) (less : k < length old) where
    -- the stretch after those that were taken
    abbrev here : Stretch
    here = get_or old k d

    cut : drop all.many old ≡ here ∷ drop (k + 1) old
    cut = cc (drop_more old k d less)

    pub has_lead : all.lead ≤ here.kept
    has_lead = rw cut at t.lead

    abbrev led_one : Stretch
    led_one = at (here.kept - all.lead) here.removed here.added

    module _ (next : Stretch) (next_is : next ≡ led_one) where
      next_covers : Covers start end old (all.one ∷ next ∷ drop (k + 1) old)
      next_covers = rw next_is (rw cut at t.covers)

      pub few_both : AreCounted end old → (all.one.removed + (next.kept + next.removed) < 2 ^ 64) × (all.one.added + (next.kept + next.added) < 2 ^ 64)
      few_both counted = omega (arith, next_covers.fits counted.known counted.lines counted.within counted.fit)

      pub takes_next : {one : Stretch} → next.kept ≤ end - (all.one.kept + all.one.added) → one ≡ both all.one next → Takes start end start old (record { one = one; many = k + 1; lead = 0 })
      takes_next near made = record {
        within = omega arith;
        lead = lead_none (drop (k + 1) old);
        few_lead = omega arith;
        begins = rw made t.begins;
        reaches = rw made (omega arith);
        covers = rw (made, led_none) (covers_more _ _ _ _ _ next_covers (both_cover _ _ _ _ _ t.reaches near));
      }

      -- no line up to line `end` is of a later stretch
      pub near_next : end - (all.one.kept + all.one.added) < next.kept → HasLead (end - (all.one.kept + all.one.added)) (led all.lead (drop all.many old))
      near_next near = rw cut (omega (arith, rw next_is at near))

  -- ---- the lines after them

  abbrev more : ℕ
  more = end - (all.one.kept + all.one.added)

  abbrev rest : List Stretch
  rest = led all.lead (drop all.many old)

  pub near_none : {k : ℕ} → all.many ≡ k → length old ≤ k → HasLead more rest
  near_none many past = rw (drop_all all.many old (omega arith)) tt

  wide_cover : HasLead more rest → Covers start end old (wide all.one more ∷ led more rest)
  wide_cover near = covers_more _ _ _ _ _ t.covers (wide_covers _ _ _ _ _ t.reaches refl near)

  pub takes_all : (new : Touched) → HasLead more rest → new.one ≡ wide all.one more → new.many ≡ all.many → new.lead ≡ all.lead + more → Takes start end end old new
  takes_all new near one many lead = record {
    within = rw many t.within;
    lead = rw (many, lead) (lead_more _ _ _ t.lead near);
    few_lead = rw (lead, one) (omega arith);
    begins = rw one t.begins;
    reaches = rw one (omega arith);
    covers = rw (one, many, lead, led_more) (wide_cover near);
  }

  pub few_wide : HasLead more rest → AreCounted end old → (all.one.removed + more < 2 ^ 64) × (all.one.added + more < 2 ^ 64) × (all.lead + more < 2 ^ 64)
  few_wide near counted = omega (arith, (wide_cover near).fits counted.known counted.lines counted.within counted.fit)
