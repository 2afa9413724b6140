-- How a chain of two joined parts runs: in the one, in the other, or across from the first to the
-- second.
use Rattle.re_auto.proofs.{Prelude.{ℕ, zero, suc, ◌<◌, ◌≤◌, Bool, false, inl, inr, length, slice_index, refl, arith, Text, Part, is_begin, Reaches, joined}, lemmas.{Numbered.IsNumbered, Chains.{not_at_begin, reaches_bounds}}}

module _ (f g : Part) (Skip : Bool → Type 0) (Cross : Type 0) (E : Bool → Bool → Type 0) (L : Bool → ℕ → Type 0) (from mid to : ℕ) (nf : IsNumbered f from mid) (ng : IsNumbered g mid to) where
  abbrev both : Part
  both = joined f g Skip Cross E L

  -- a step stays in a part, or crosses from the first to the second
  data Move (p q c : ℕ) : Type 0 where
    in_first : f.follow p q → f.takes q c → p < mid → Move p q c
    in_second : g.follow p q → g.takes q c → mid ≤ p → Move p q c
    across : Cross → f.last false p → g.first false q → g.takes q c → p < mid → Move p q c

  -- each step of the joined parts is one of these
  move : (p q c : ℕ) → both.follow p q → both.takes q c → Move p q c
  move p q c (inl w) (inl t) = in_first w t (nf.follow p q w).1
  move p q c (inl w) (inr t) = absurd (omega (arith, nf.follow p q w, ng.takes q c t))
  move p q c (inr (inl w)) (inl t) = absurd (omega (arith, ng.follow p q w, nf.takes q c t))
  move p q c (inr (inl w)) (inr t) = in_second w t (ng.follow p q w).0
  move p q c (inr (inr w)) (inl t) = absurd (omega (arith, ng.first false q w.2, nf.takes q c t))
  move p q c (inr (inr w)) (inr t) = across w.0 w.1 w.2 t (nf.last false p w.1).1

  -- how a chain of the joined parts runs
  pub data Run (line : Text) (i j q : ℕ) : Type 0 where
    of_first : q < mid → Reaches f line i j q → Run line i j q
    of_second : mid ≤ q → Skip (is_begin i) → Reaches g line i j q → Run line i j q
    of_both : mid ≤ q → Cross → (k p : ℕ) → Reaches f line i k p → f.last false p → Reaches g line k j q → Run line i j q

  -- one more step of such a run
  on : (line : Text) (i j p q : ℕ) → j < length line → Move p q (slice_index line j) → Run line i j p → Run line i (suc j) q
  on line i j p q lt (in_first w t m) (of_first b r) = of_first (nf.takes q _ t).1 ((lt, t), inr (p, r, w))
  on line i j p q lt (in_first w t m) (of_second b s r) = absurd (omega arith)
  on line i j p q lt (in_first w t m) (of_both b x k e r l s) = absurd (omega arith)
  on line i j p q lt (in_second w t m) (of_first b r) = absurd (omega arith)
  on line i j p q lt (in_second w t m) (of_second b s r) = of_second (ng.takes q _ t).0 s ((lt, t), inr (p, r, w))
  on line i j p q lt (in_second w t m) (of_both b x k e r l s) = of_both (ng.takes q _ t).0 x k e r l ((lt, t), inr (p, s, w))
  on line i j p q lt (across x l w t m) (of_first b r) =
      let begin = not_at_begin j (omega (arith, reaches_bounds f line i j p r)) in
      of_both (ng.takes q _ t).0 x j p r l ((lt, t), inl (refl, rw begin w))
  on line i j p q lt (across x l w t m) (of_second b s r) = absurd (omega arith)
  on line i j p q lt (across x l w t m) (of_both b y k e r v s) = absurd (omega arith)

  -- each chain of the joined parts is such a run
  pub run : (line : Text) (i j q : ℕ) → Reaches both line i j q → Run line i j q
  run line i zero q r = absurd r
  run line i (suc j) q ((lt, inl t), inl (e, inl w)) = of_first (nf.takes q _ t).1 ((lt, t), inl (e, w))
  run line i (suc j) q ((lt, inr t), inl (e, inl w)) = absurd (omega (arith, nf.first _ q w, ng.takes q _ t))
  run line i (suc j) q ((lt, inl t), inl (e, inr w)) = absurd (omega (arith, ng.first _ q w.1, nf.takes q _ t))
  run line i (suc j) q ((lt, inr t), inl (e, inr w)) = of_second (ng.takes q _ t).0 (rw e w.0) ((lt, t), inl (e, w.1))
  run line i (suc j) q ((lt, t), inr (p, r, w)) = on line i j p q lt (move p q _ w t) (run line i j p r)
