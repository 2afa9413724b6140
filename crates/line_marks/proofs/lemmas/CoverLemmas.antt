-- What is left untouched when stretches become one, and when a stretch takes lines.
use Rattle.line_marks.proofs.Prelude.{◌≡◌, ℕ, ◌+◌, ◌-◌, ◌≤◌, List, [], ◌∷◌, refl, ap, inl, inr, arith, cases_lt, Stretch, Fits, Keeps, Loses, Covers, HasLead, led}

abbrev pub at : ℕ → ℕ → ℕ → Stretch
at kept removed added = record { kept = kept; removed = removed; added = added }

-- ---- nothing changes

pub loses_none : (stretches : List Stretch) → Loses stretches stretches
loses_none _ = record {
  fits = λ known lines fit. fit;
  only = λ line now keeps. keeps;
  before = λ place before. before;
  after = λ place after. after;
}

pub covers_more : (start end : ℕ) (old mid new : List Stretch) → Covers start end old mid → Covers start end mid new → Covers start end old new
covers_more _ _ _ _ _ first then = record {
  fits = λ known lines within fit. then.fits known lines within (first.fits known lines within fit);
  only = λ line now keeps. first.only line now (then.only line now keeps);
  all = λ line now out keeps. then.all line now out (first.all line now out keeps);
  before = λ place low before. then.before place low (first.before place low before);
  after = λ place high after. then.after place high (first.after place high after);
}

-- ---- lines that are led away

pub led_none : (stretches : List Stretch) → led 0 stretches ≡ stretches
led_none [] = refl
led_none (stretch ∷ more) =
    ap (λ kept. at kept stretch.removed stretch.added ∷ more) (omega arith)

pub led_more : (lead more : ℕ) (stretches : List Stretch) → led (lead + more) stretches ≡ led more (led lead stretches)
led_more _ _ [] = refl
led_more lead more (stretch ∷ rest) =
    ap (λ kept. at kept stretch.removed stretch.added ∷ rest) (omega arith)

pub lead_more : (lead more : ℕ) (stretches : List Stretch) → HasLead lead stretches → HasLead more (led lead stretches) → HasLead (lead + more) stretches
lead_more _ _ [] _ _ = tt
lead_more lead more (stretch ∷ rest) first then = omega arith

pub lead_none : (stretches : List Stretch) → HasLead 0 stretches
lead_none [] = tt
lead_none (stretch ∷ rest) = omega arith

-- ---- a stretch of no lines

pub idle_covers : (start : ℕ) (stretches : List Stretch) → HasLead start stretches → (end : ℕ) → start ≤ end → Covers start end stretches (at start 0 0 ∷ led start stretches)
idle_covers start [] lead end low = record {
  fits = λ known lines within fit. (known - start, lines - start, omega arith, omega arith, omega arith);
  only = λ line now keeps. elim keeps [
    | inl h ↦ h.1
    | inr h ↦ omega arith
  ];
  all = λ line now out keeps. elim (cases_lt line start) [
    | inl h ↦ inl (h, keeps)
    | inr h ↦ inr (line - start, now - start, omega arith, omega arith, omega arith)
  ];
  before = λ place less before. less;
  after = λ place high after. (place - start, omega arith, tt);
}
idle_covers start (s ∷ more) lead end low = record {
  fits = λ known lines within fit. (s.kept - start + s.removed + fit.0, s.kept - start + s.added + fit.1, omega arith, omega arith, (fit.0, fit.1, refl, refl, fit.4));
  only = λ line now keeps. elim keeps [
    | inl h ↦ inl (omega arith, h.1)
    | inr h ↦ elim h.4 [
      | inl k ↦ inl (omega arith)
      | inr k ↦ inr (k.0, k.1, omega arith, omega arith, k.4)
    ]
  ];
  all = λ line now out keeps. elim keeps [
    | inl h ↦ elim (cases_lt line start) [
      | inl l ↦ inl (l, h.1)
      | inr l ↦ inr (line - start, now - start, omega arith, omega arith, inl (omega arith))
    ]
    | inr h ↦ inr (s.kept - start + s.removed + h.0, s.kept - start + s.added + h.1, omega arith, omega arith, inr (h.0, h.1, refl, refl, h.4))
  ];
  before = λ place less before. less;
  after = λ place high after. (s.kept - start + s.added + after.0, omega arith, (after.0, refl, after.2));
}

-- ---- two stretches become one

abbrev pub both : Stretch → Stretch → Stretch
both one next = at one.kept (one.removed + (next.kept + next.removed)) (one.added + (next.kept + next.added))

module _ (one next : Stretch) (more : List Stretch) where
  fits_both : (known lines : ℕ) → Fits known lines (one ∷ next ∷ more) → Fits known lines (both one next ∷ more)
  fits_both known lines fit = (fit.4.0, fit.4.1, omega arith, omega arith, fit.4.4)

  only_both : (line now : ℕ) → Keeps (both one next ∷ more) line now → Keeps (one ∷ next ∷ more) line now
  only_both line now keeps = elim keeps [
    | inl h ↦ inl h
    | inr h ↦ inr (next.kept + next.removed + h.0, next.kept + next.added + h.1, omega arith, omega arith, inr (h.0, h.1, refl, refl, h.4))
  ]

  pub both_lose : Loses (one ∷ next ∷ more) (both one next ∷ more)
  both_lose = record {
    fits = fits_both;
    only = only_both;
    before = λ place before. before;
    after = λ place after. (after.2.0, omega arith, after.2.2);
  }

  pub both_cover : (start end : ℕ) → start ≤ one.kept + one.added → next.kept ≤ end - (one.kept + one.added) → Covers start end (one ∷ next ∷ more) (both one next ∷ more)
  both_cover start end low near = record {
    fits = λ known lines within fit. fits_both known lines fit;
    only = only_both;
    all = λ line now out keeps. elim keeps [
      | inl h ↦ inl h
      | inr h ↦ elim h.4 [
        | inl k ↦ absurd (omega arith)
        | inr k ↦ inr (k.0, k.1, omega arith, omega arith, k.4)
      ]
    ];
    before = λ place less before. before;
    after = λ place high after. (after.2.0, omega arith, after.2.2);
  }

-- ---- a stretch takes the lines after it

abbrev pub wide : Stretch → ℕ → Stretch
wide one more = at one.kept (one.removed + more) (one.added + more)

pub wide_covers : (start end more : ℕ) (one : Stretch) (rest : List Stretch) → start ≤ one.kept + one.added → more ≡ end - (one.kept + one.added) → HasLead more rest → Covers start end (one ∷ rest) (wide one more ∷ led more rest)
wide_covers start end more one [] low is lead = record {
  fits = λ known lines within fit. (fit.0 - more, fit.1 - more, omega arith, omega arith, omega arith);
  only = λ line now keeps. elim keeps [
    | inl h ↦ inl h
    | inr h ↦ inr (more + h.0, more + h.1, omega arith, omega arith, omega arith)
  ];
  all = λ line now out keeps. elim keeps [
    | inl h ↦ inl h
    | inr h ↦ elim (cases_lt h.1 more) [
      | inl l ↦ absurd (omega arith)
      | inr l ↦ inr (h.0 - more, h.1 - more, omega arith, omega arith, omega arith)
    ]
  ];
  before = λ place less before. before;
  after = λ place high after. (after.0 - more, omega arith, tt);
}
wide_covers start end more one (s ∷ rest) low is lead = record {
  fits = λ known lines within fit. (fit.0 - more, fit.1 - more, omega arith, omega arith, (fit.4.0, fit.4.1, omega arith, omega arith, fit.4.4));
  only = λ line now keeps. elim keeps [
    | inl h ↦ inl h
    | inr h ↦ elim h.4 [
      | inl k ↦ inr (more + h.0, more + h.1, omega arith, omega arith, inl (omega arith))
      | inr k ↦ inr (more + h.0, more + h.1, omega arith, omega arith, inr (k.0, k.1, omega arith, omega arith, k.4))
    ]
  ];
  all = λ line now out keeps. elim keeps [
    | inl h ↦ inl h
    | inr h ↦ elim h.4 [
      | inl k ↦ elim (cases_lt h.1 more) [
        | inl l ↦ absurd (omega arith)
        | inr l ↦ inr (h.0 - more, h.1 - more, omega arith, omega arith, inl (omega arith))
      ]
      | inr k ↦ inr (h.0 - more, h.1 - more, omega arith, omega arith, inr (k.0, k.1, omega arith, omega arith, k.4))
    ]
  ];
  before = λ place less before. before;
  after = λ place high after. (after.0 - more, omega arith, (after.2.0, omega arith, after.2.2));
}
