-- Lists of stretches of which two become one, or some are replaced by one.
use Rattle.line_marks.proofs.{Prelude.{◌≡◌, ℕ, zero, suc, ◌+◌, ◌-◌, ◌^◌, ◌<◌, ◌≤◌, List, [], ◌∷◌, ◌++◌, length, take, drop, get_or, refl, subst, inl, inr, arith, drop_at, length-take-le, Stretch, Fits, Loses, AreCounted, led}, lemmas.CoverLemmas.{both, both_lose}}

-- the list without the stretches from `first` up to `past`
abbrev cut : ℕ → ℕ → List Stretch → List Stretch
cut first past old = take first old ++ drop past old

-- ---- two become one

loses_past : (s : Stretch) {old new : List Stretch} → Loses old new → Loses (s ∷ old) (s ∷ new)
loses_past s l = record {
  fits = λ known lines fit. (fit.0, fit.1, fit.2, fit.3, l.fits fit.0 fit.1 fit.4);
  only = λ line now keeps. elim keeps [
    | inl h ↦ inl h
    | inr h ↦ inr (h.0, h.1, h.2, h.3, l.only h.0 h.1 h.4)
  ];
  before = λ place before. before;
  after = λ place after. (after.0, after.1, l.after after.0 after.2);
}

lose_at : (k : ℕ) (old : List Stretch) (d e : Stretch) → suc k < length old →
    Loses old (take k (cut k (suc k) (cut (suc k) (suc (suc k)) old)) ++ both (get_or (cut (suc k) (suc (suc k)) old) k d) (get_or old (suc k) e) ∷ drop k (cut k (suc k) (cut (suc k) (suc (suc k)) old)))
lose_at k [] d e less = absurd (omega arith)
lose_at k (a ∷ []) d e less = absurd (omega arith)
lose_at zero (a ∷ b ∷ more) d e _ = both_lose a b more
lose_at (suc k) (a ∷ b ∷ more) d e less = loses_past a (lose_at k (b ∷ more) d e (omega arith))

pub joined_lose : (k : ℕ) {old gone : List Stretch} {one next : Stretch} → 1 ≤ k → k < length old → gone ≡ cut k (suc k) old → next ≡ get_or old k next → one ≡ get_or gone (k - 1) one →
    Loses old (take (k - 1) (cut (k - 1) (suc (k - 1)) gone) ++ both one next ∷ drop (k - 1) (cut (k - 1) (suc (k - 1)) gone))
joined_lose zero some less gone_is at_next at_one = absurd (omega arith)
joined_lose (suc k) {old} {gone} {one} {next} some less gone_is at_next at_one =
    let before : suc k - 1 ≡ k = omega arith in
    subst (Loses old) (cc) (lose_at k old one next less)

-- a stretch has no more lines than the file
pub fits_within : (front : List Stretch) (one : Stretch) (tail : List Stretch) (known lines : ℕ) → Fits known lines (front ++ one ∷ tail) → (one.removed ≤ known) × (one.added ≤ lines)
fits_within [] one tail known lines fit = omega arith
fits_within (s ∷ front) one tail known lines fit = omega (arith, fits_within front one tail fit.0 fit.1 fit.4)

-- both fit
pub few_joined : (k : ℕ) {old gone : List Stretch} {one next : Stretch} → 1 ≤ k → k < length old → gone ≡ cut k (suc k) old → next ≡ get_or old k next → one ≡ get_or gone (k - 1) one → AreCounted 0 old →
    (one.removed + (next.kept + next.removed) < 2 ^ 64) × (one.added + (next.kept + next.added) < 2 ^ 64)
few_joined k {gone = gone} {one = one} {next = next} some less gone_is at_next at_one counted =
    let left = cut (k - 1) (suc (k - 1)) gone in
    omega (arith, fits_within (take (k - 1) left) (both one next) (drop (k - 1) left) _ _ ((joined_lose k some less gone_is at_next at_one).fits _ _ counted.fit))

-- ---- one is put in the place of others

pub lowered_at : (k : ℕ) (old : List Stretch) (lead : ℕ) (d : Stretch) → k < length old → take k (cut k (suc k) old) ++ led lead (get_or old k d ∷ drop k (cut k (suc k) old)) ≡ take k old ++ led lead (drop k old)
lowered_at k [] lead d less = absurd (omega arith)
lowered_at zero (a ∷ old) _ d _ = refl
lowered_at (suc k) (a ∷ old) lead d less = rw (lowered_at k old lead d (omega arith))

pub put_at : (first past : ℕ) (old rest : List Stretch) (one : Stretch) → first ≤ past → past ≤ length old → take first (cut first past (take past old ++ rest)) ++ one ∷ drop first (cut first past (take past old ++ rest)) ≡ take first old ++ one ∷ rest
put_at zero past old rest one le within = rw (drop_at (take past old) rest past (length-take-le past old within))
put_at (suc first) zero old rest one le within = absurd (omega arith)
put_at (suc first) (suc past) [] rest one le within = absurd (omega arith)
put_at (suc first) (suc past) (a ∷ old) rest one le within = rw (put_at first past old rest one (omega arith) (omega arith))

pub led_length : (lead : ℕ) (stretches : List Stretch) → length (led lead stretches) ≡ length stretches
led_length _ [] = refl
led_length _ (s ∷ more) = refl
