-- The files of more sources, and how often the devices failed in them.
use Rattle.{grep_core.proofs.{Prelude.{◌≡◌, ℕ, zero, suc, ◌+◌, List, [], ◌∷◌, ◌++◌, inl, inr, Option, refl, sym, ap, ◌∙◌, length, Any, arith, append-nil, append_assoc, Expression, Options, one_more, IfHolds, FaultMet, Stops, Source, Reading, file_of, failures_of, AreLeft, files_of, AreReadings, FailuresMet, LeftMet, count_more, Returns, Text}, lemmas.Decided.dec_stops}, re_syntax.proofs.lemmas.Decisions.{Any-first, Any-later}}

-- readings of some sources, and of others after them
pub AreReadings-append : (xs ys : List Source) (rs ss : List Reading) → AreReadings xs rs → AreReadings ys ss → AreReadings (xs ++ ys) (rs ++ ss)
AreReadings-append [] _ [] _ h k = k
AreReadings-append [] _ (r ∷ rs) _ h k = absurd h
AreReadings-append (x ∷ xs) _ [] _ h k = absurd h
AreReadings-append (x ∷ xs) ys (r ∷ rs) ss h k = (h.0, AreReadings-append xs ys rs ss h.1 k)

-- the files of some sources, and of others after them
pub files_of-append : (xs ys : List Source) (rs ss : List Reading) → AreReadings xs rs → files_of (xs ++ ys) (rs ++ ss) ≡ files_of xs rs ++ files_of ys ss
files_of-append [] _ [] _ h = refl
files_of-append [] _ (r ∷ rs) _ h = absurd h
files_of-append (x ∷ xs) _ [] _ h = absurd h
files_of-append (x ∷ xs) ys (r ∷ rs) ss h = ap (λ fs. file_of x.name r ∷ fs) (files_of-append xs ys rs ss h.1)

-- there is one file for each source
pub length-files_of : (xs : List Source) (rs : List Reading) → AreReadings xs rs → length (files_of xs rs) ≡ length xs
length-files_of [] [] h = refl
length-files_of [] (r ∷ rs) h = absurd h
length-files_of (x ∷ xs) [] h = absurd h
length-files_of (x ∷ xs) (r ∷ rs) h = ap suc (length-files_of xs rs h.1)

-- a count takes more failures in two steps or in one
pub count_more-add : (n a b : ℕ) → count_more n (a + b) ≡ count_more (count_more n a) b
count_more-add n a zero = let e : a + 0 ≡ a = omega arith in ap (count_more n) e
count_more-add n a (suc b) = let e : a + suc b ≡ suc (a + b) = omega arith in ap (count_more n) e ∙ ap one_more (count_more-add n a b)

module _ (es : List Expression) (options : Options) where
  -- how often the devices failed in sources at which a run does not stop, and in others after them
  pub FailuresMet-append : (xs ys : List Source) (rs ss : List Reading) (n m : ℕ) → AreReadings xs rs → (Any (Stops es options) (files_of xs rs) → ⊥) →
      FailuresMet es options xs rs n → FailuresMet es options ys ss m → FailuresMet es options (xs ++ ys) (rs ++ ss) (n + m)
  FailuresMet-append [] ys [] ss n m h none f g = let none_failed : n ≡ 0 = f in let e : m ≡ n + m = omega arith in rw e at g
  FailuresMet-append [] _ (r ∷ rs) _ n m h none f g = absurd h
  FailuresMet-append (x ∷ xs) _ [] _ n m h none f g = absurd h
  FailuresMet-append (x ∷ xs) ys (r ∷ rs) ss n m h none f g =
      let file = file_of x.name r in
      elim f.3 [
        | inl stops ↦ absurd (none (Any-first (Stops es options) file (files_of xs rs) stops.0))
        | inr goes_on ↦ (
          f.0,
          f.1 + m,
          f.2,
          inr (goes_on.0, FailuresMet-append xs ys rs ss f.1 m h.1 (λ a. none (Any-later (Stops es options) file (files_of xs rs) a)) goes_on.1 g),
          (let e : n ≡ f.0 + f.1 = f.4 in omega arith),
        )
      ]

  -- how often they failed in a first source at which a run stops, with any sources after it
  pub FailuresMet-stopped : (x : Source) (xs : List Source) (r : Reading) (rs : List Reading) (own : ℕ) → Stops es options (file_of x.name r) →
      IfHolds (FaultMet es options (file_of x.name r)) (own ≡ failures_of r) (own ≡ 0) → FailuresMet es options (x ∷ xs) (r ∷ rs) own
  FailuresMet-stopped x xs r rs own stops h = (own, 0, h, inl (stops, refl), omega arith)

  -- how often they failed in one source
  pub FailuresMet-one : (x : Source) (r : Reading) (own : ℕ) → IfHolds (FaultMet es options (file_of x.name r)) (own ≡ failures_of r) (own ≡ 0) → FailuresMet es options (x ∷ []) (r ∷ []) own
  FailuresMet-one x r own h = elim (dec_stops es options (file_of x.name r)) [ yes stops ↦ FailuresMet-stopped x [] r [] own stops h | no goes_on ↦ (own, 0, h, inr (goes_on, refl), omega arith) ]

  -- what the later sources did makes no difference
  pub FailuresMet-longer : (xs : List Source) (rs ss : List Reading) (n : ℕ) → AreReadings xs rs → FailuresMet es options xs rs n → FailuresMet es options xs (rs ++ ss) n
  FailuresMet-longer [] [] _ n h f = f
  FailuresMet-longer [] (r ∷ rs) _ n h f = absurd h
  FailuresMet-longer (x ∷ xs) [] _ n h f = absurd h
  FailuresMet-longer (x ∷ xs) (r ∷ rs) ss n h f =
      (f.0, f.1, f.2, elim f.3 [ inl stops ↦ inl stops | inr goes_on ↦ inr (goes_on.0, FailuresMet-longer xs rs ss f.1 h.1 goes_on.1) ], f.4)

  -- what the readers of sources at which a run does not stop had left, and of others after them
  pub LeftMet-append : (xs ys : List Source) (rs ss : List Reading) (a b : List (Option Text)) → AreReadings xs rs → (Any (Stops es options) (files_of xs rs) → ⊥) →
      LeftMet es options xs rs a → LeftMet es options ys ss b → LeftMet es options (xs ++ ys) (rs ++ ss) (a ++ b)
  LeftMet-append [] ys [] ss a b h none f g = rw (ap (λ l. l ++ b) (sym f)) at g
  LeftMet-append [] _ (r ∷ rs) _ a b h none f g = absurd h
  LeftMet-append (x ∷ xs) _ [] _ a b h none f g = absurd h
  LeftMet-append (x ∷ xs) ys (r ∷ rs) ss a b h none f g =
      let file = file_of x.name r in
      elim f.3 [
        | inl stops ↦ absurd (none (Any-first (Stops es options) file (files_of xs rs) stops.0))
        | inr goes_on ↦ (
          f.0,
          f.1 ++ b,
          f.2,
          inr (goes_on.0, LeftMet-append xs ys rs ss f.1 b h.1 (λ n. none (Any-later (Stops es options) file (files_of xs rs) n)) goes_on.1 g),
          ap (λ l. l ++ b) f.4 ∙ append_assoc f.0 f.1 b,
        )
      ]

  -- of a first source at which a run stops, with any sources after it
  pub LeftMet-stopped : (x : Source) (xs : List Source) (r : Reading) (rs : List Reading) (own : List (Option Text)) → Stops es options (file_of x.name r) → AreLeft x r own → LeftMet es options (x ∷ xs) (r ∷ rs) own
  LeftMet-stopped x _ r _ own stops h = (own, [], h, inl (stops, refl), sym (append-nil own))

  -- of one source
  pub LeftMet-one : (x : Source) (r : Reading) (own : List (Option Text)) → AreLeft x r own → LeftMet es options (x ∷ []) (r ∷ []) own
  LeftMet-one x r own h = elim (dec_stops es options (file_of x.name r)) [ yes stops ↦ LeftMet-stopped x [] r [] own stops h | no goes_on ↦ (own, [], h, inr (goes_on, refl), sym (append-nil own)) ]

  -- what the later sources did makes no difference
  pub LeftMet-longer : (xs : List Source) (rs ss : List Reading) (left : List (Option Text)) → AreReadings xs rs → LeftMet es options xs rs left → LeftMet es options xs (rs ++ ss) left
  LeftMet-longer [] [] _ _ h f = f
  LeftMet-longer [] (r ∷ rs) _ _ h f = absurd h
  LeftMet-longer (x ∷ xs) [] _ _ h f = absurd h
  LeftMet-longer (x ∷ xs) (r ∷ rs) ss _ h f =
      (f.0, f.1, f.2, elim f.3 [ inl stops ↦ inl stops | inr goes_on ↦ inr (goes_on.0, LeftMet-longer xs rs ss f.1 h.1 goes_on.1) ], f.4)

-- ---- readers that were returned

module _ {S : Type 0} (returned_readers : S → List (Option Text) → Type 0) where
  -- none was
  pub gives_none : (state : S) → Returns returned_readers state state []
  gives_none state before h = rw (append-nil before) h

  -- some were, and then others
  pub gives_both : (old mid new : S) (a b : List (Option Text)) → Returns returned_readers old mid a → Returns returned_readers mid new b → Returns returned_readers old new (a ++ b)
  gives_both old mid new a b f g before h = rw (append_assoc before a b) at (g (before ++ a) (f before h))
