-- What is found in the chunks so far fits them.
use Rattle.{std.{proofs.Common.{◌≡◌, ℕ, suc, zero, ◌+◌, ◌<◌, List, [], ◌∷◌, ◌++◌, length, take, get_or, arith, subst}, specs.Prelude.{Option, Some}}, line_chunks.specs.Working.{Finds.FoundIn, Chunks.{KeptLine, FitsColumn, FitColumns}}}

fits_suc : (cs : List (List KeptLine)) (fs : List (Option FoundIn)) (k : ℕ) (one : Option FoundIn) → k < length cs
    → length fs ≡ k → FitColumns (take k cs) fs → FitsColumn (get_or cs k []) one
    → FitColumns (take (suc k) cs) (fs ++ one ∷ [])
fits_suc [] fs k one h many fit last = absurd (omega arith)
fits_suc (c ∷ cs) [] zero one h many fit last = (last, tt)
fits_suc (c ∷ cs) (f ∷ fs) zero one h many fit last = absurd (omega (arith, many))
fits_suc (c ∷ cs) [] (suc k) one h many fit last = absurd (omega (arith, many))
fits_suc (c ∷ cs) (f ∷ fs) (suc k) one h many fit last =
    (fit.0, fits_suc cs fs k one (omega arith) (omega (arith, many)) fit.1 last)

pub fits_more : (cs : List (List KeptLine)) (fs : List (Option FoundIn)) (k : ℕ) (one : FoundIn) → k < length cs
    → length fs ≡ k → FitColumns (take k cs) fs → one.size ≡ length (get_or cs k [])
    → FitColumns (take (k + 1) cs) (fs ++ Some one ∷ [])
fits_more cs fs k one h many fit last =
    let same : suc k ≡ k + 1 = omega arith in
    subst (λ n. FitColumns (take n cs) (fs ++ Some one ∷ [])) same (fits_suc cs fs k (Some one) h many fit last)
