-- What is left untouched where lines are replaced by others.
use Rattle.line_marks.proofs.{Prelude.{◌≡◌, ℕ, ◌+◌, ◌-◌, ◌^◌, ◌<◌, ◌≤◌, List, [], ◌∷◌, ◌++◌, length, refl, ap, ◌∙◌, inl, inr, arith, cases_lt, Stretch, Fits, Marked, Splices, most_stretches, Loses, Covers, Replaces, SplicesList, AreCounted, Passes, led, Touched, Takes, take, drop, length-append, length-drop, length-take, take-append-drop, drop-drop}, lemmas.{CoverLemmas.at, RoomLemmas.{fits_within, led_length}}}

-- the stretch that has all of the lines that are replaced gets the new ones
pub one_replaced : (start count added : ℕ) {old : List Stretch} {one : Stretch} {rest : List Stretch} → Covers start (start + count) old (one ∷ rest) → one.kept ≤ start → start + count ≤ one.kept + one.added → Replaces start count added old (at one.kept one.removed (one.added - count + added) ∷ rest)
one_replaced start count added {one = one} covers begins reaches = record {
  fits = λ known lines within fit.
      (let f = covers.fits known lines within fit in
      (f.0, f.1, f.2, omega arith, f.4));
  only = λ line now keeps. elim keeps [
    | inl h ↦ (now, covers.only line now (inl h), inl (omega arith, refl))
    | inr h ↦
        (let then = one.kept + one.added + h.1 in
        (then, covers.only line then (inr (h.0, h.1, h.2, refl, h.4)), inr (then - (start + count), omega arith, omega arith)))
  ];
  all = λ line then now keeps moves. elim moves [
    | inl m ↦ elim (covers.all line then (inl m.0) keeps) [
      | inl h ↦ inl (h.0, omega arith)
      | inr h ↦ absurd (omega arith)
    ]
    | inr m ↦ elim (covers.all line then (inr (omega arith)) keeps) [
      | inl h ↦ absurd (omega arith)
      | inr h ↦ inr (h.0, h.1, h.2, omega arith, h.4)
    ]
  ];
  before = λ place less before. covers.before place less before;
  after = λ past after.
      (let a = covers.after (start + count + past) (omega arith) after in
      (a.0, omega arith, a.2));
}

-- ---- after other stretches

past_one : (s : Stretch) {start : ℕ} (later count added : ℕ) {old new : List Stretch} → start ≡ s.kept + s.added + later → Replaces later count added old new → Replaces start count added (s ∷ old) (s ∷ new)
past_one s later count added is r = record {
  fits = λ known lines within fit. (fit.0, fit.1 - count + added, fit.2, omega arith, r.fits fit.0 fit.1 (omega arith) fit.4);
  only = λ line now keeps. elim keeps [
    | inl h ↦ (now, inl h, inl (omega arith, refl))
    | inr h ↦
        (let m = r.only h.0 h.1 h.4 in (
          s.kept + s.added + m.0,
          inr (h.0, m.0, h.2, refl, m.1),
          elim m.2 [
            | inl l ↦ inl (omega arith)
            | inr l ↦ inr (l.0, omega arith, omega arith)
          ],
        ))
  ];
  all = λ line then now keeps moves. elim keeps [
    | inl h ↦ elim moves [
      | inl m ↦ inl (h.0, m.1 ∙ h.1)
      | inr m ↦ absurd (omega arith)
    ]
    | inr h ↦ elim moves [
      | inl m ↦ inr (h.0, h.1, h.2, m.1 ∙ h.3, r.all h.0 h.1 h.1 h.4 (inl (omega arith, refl)))
      | inr m ↦ inr (h.0, later + added + m.0, h.2, omega arith, r.all h.0 h.1 (later + added + m.0) h.4 (inr (m.0, omega arith, refl)))
    ]
  ];
  before = λ place less before. before;
  after = λ past after.
      (let same : after.0 ≡ later + count + past = omega arith in
      (later + added + past, omega arith, r.after past (rw same at after.2)));
}

pub past_all : {old new : List Stretch} (front : List Stretch) {rest count added : ℕ} (start : ℕ) → Passes front start rest → Replaces rest count added old new → Replaces start count added (front ++ old) (front ++ new)
past_all [] start passes r = rw passes r
past_all (s ∷ front) _ passes r =
    past_one s _ _ _ passes.1 (past_all front passes.0 passes.3 r)

-- the stretches after others are of a file of fewer lines
pub counted_past : (front tail : List Stretch) (start rest count known lines : ℕ) → Passes front start rest → start + count ≤ lines → known < 2 ^ 64 → lines < 2 ^ 64 → Fits known lines (front ++ tail) → AreCounted (rest + count) tail
counted_past [] tail start rest count known lines passes within few_known few fit = record {
  known = known;
  lines = lines;
  few_known = few_known;
  few = few;
  within = omega arith;
  fit = fit;
}
counted_past (s ∷ front) tail start rest count known lines passes within few_known few fit =
    counted_past front tail passes.0 rest count fit.0 fit.1 passes.3 (omega arith) (omega arith) (omega arith) fit.4

-- ---- a mark

pub replaced_mark : {added : ℕ} (start count : ℕ) (old new : Marked) → 1 ≤ count + added → SplicesList start count added old.stretches new.stretches → new.known ≡ old.known → new.lines ≡ old.lines - count + added → start + count ≤ old.lines → Fits new.known new.lines new.stretches → Splices start count added old new
replaced_mark start count old new some s known lines within fits = record {
  fits = fits;
  known = known;
  lines = omega arith;
  one_more = omega arith;
  only = λ line now keeps.
      (let m = s.replaces.only line now keeps in
      (m.0, s.loses.only line m.0 m.1, m.2));
  all = λ room line then now keeps moves. s.replaces.all line then now (rw (s.same room) keeps) moves;
  before = λ place less before. s.replaces.before place less (s.loses.before place before);
  after = λ past after. s.replaces.after past (s.loses.after (start + count + past) after);
}

-- a splice of nothing by nothing
pub idle_mark : (start count added : ℕ) (old : Marked) → count ≡ 0 → added ≡ 0 → Fits old.known old.lines old.stretches → Splices start count added old old
idle_mark start count added old none none_added fits = record {
  fits = fits;
  known = refl;
  lines = omega arith;
  one_more = omega arith;
  only = λ line now keeps. (
    now,
    keeps,
    elim (cases_lt now start) [
      | inl h ↦ inl (h, refl)
      | inr h ↦ inr (now - start, omega arith, omega arith)
    ],
  );
  all = λ room line then now keeps moves. elim moves [
    | inl m ↦ rw m.1 keeps
    | inr m ↦ (let same : then ≡ now = omega arith in rw same at keeps)
  ];
  before = λ place less before. before;
  after = λ past after. (let same : start + count + past ≡ start + added + past = omega arith in rw same at after);
}

-- ---- all of it

module _ (old mid : List Stretch) (start count added many rest lines : ℕ) (within : start + count ≤ lines) (loses : Loses old mid) (passes : Passes (take many mid) start rest) where
  -- where the splice is
  pub counted_at : (fit : (known : ℕ) × (known < 2 ^ 64) × Fits known lines old) → lines < 2 ^ 64 → AreCounted (rest + count) (drop many mid)
  counted_at fit few =
      counted_past (take many mid) (drop many mid) start rest count fit.0 lines passes within fit.1 few (rw take-append-drop (loses.fits fit.0 lines fit.2))

  module _ (all : Touched) (takes : Takes rest (rest + count) (rest + count) (drop many mid) all) where
    abbrev one : Stretch
    one = at all.one.kept all.one.removed (all.one.added - count + added)

    abbrev tail : List Stretch
    tail = led all.lead (drop all.many (drop many mid))

    replaces : Replaces start count added mid (take many mid ++ one ∷ tail)
    replaces = rw (take-append-drop many mid) at (past_all (take many mid) start passes (one_replaced rest count added takes.covers takes.begins takes.reaches))

    pub few_added : (known : ℕ) → Fits known lines old → all.one.added - count + added ≤ lines - count + added
    few_added known fit = (fits_within (take many mid) one tail known (lines - count + added) (replaces.fits known lines within (loses.fits known lines fit))).1

    pub spliced_list : {new : List Stretch} → length mid ≤ length old → (length old < most_stretches → mid ≡ old) → new ≡ take many mid ++ one ∷ led all.lead (drop (many + all.many) mid) → SplicesList start count added old new
    spliced_list few same is = record {
      mid = mid;
      same = same;
      loses = loses;
      replaces = rw (is, ← drop-drop all.many many mid) replaces;
      one_more = omega (arith, few, ap length is, length-append {A = Stretch}, length-take {A = Stretch}, led_length, length-drop {A = Stretch});
    }
