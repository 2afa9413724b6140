-- The numbers of the expressions that match a line, one expression more at a time.
use Rattle.{gaxtrel.proofs.{Prelude.{◌≡◌, ◌∙◌, ◌↔◌, ℕ, ◌+◌, ◌<◌, Bool, true, false, IsTrue, MatchBool, List, ◌∷◌, inl, inr, length, drop, set, get_or, refl, sym, subst, add-one, false≢true, drop-cons, Text, AreNumbers}, ArrayLemmas.{PutSoFar, less_left, one_put}}, re_syntax.specs.{Expression.Expression, Holds.Matches}}

module _ (whole : Bool) (line : Text) (es : List Expression) (i : ℕ) (e : Expression) (within : i < length es) (at : get_or es i e ≡ e) where
  -- those from a place on are the one there and the others
  divided : (P : List Expression → Type 0) → P (e ∷ drop (i + 1) es) → P (drop i es)
  divided P = subst P (sym (drop-cons es i e within ∙ (λ j. at j ∷ drop (sym (add-one i) j) es)))

  abbrev Left : ℕ → List ℕ → Type 0
  Left k = AreNumbers whole line (drop k es) k

  -- one expression more was asked
  pub one_asked : (matched : Bool) (count after : ℕ) (old mid new : List ℕ) → IsTrue matched ↔ Matches e line whole → PutSoFar (AreNumbers whole line es 0) (Left i) count old mid
      → MatchBool matched ((new ≡ set mid count i) × (after ≡ count + 1)) ((new ≡ mid) × (after ≡ count)) → PutSoFar (AreNumbers whole line es 0) (Left (i + 1)) after old new
  one_asked true count after old mid new told s put =
      subst (λ n. PutSoFar (AreNumbers whole line es 0) (Left (i + 1)) n old new) (sym put.1) (one_put s (λ more are. divided (λ l. AreNumbers whole line l i (i ∷ more)) (inl (told.0 refl, (more, refl, are)))) put.0)
  one_asked false count after old mid new told s put =
      subst (λ (p : ℕ × List ℕ). PutSoFar (AreNumbers whole line es 0) (Left (i + 1)) p.0 old p.1) (λ j. (sym put.1 j, sym put.0 j)) (less_left s (λ more are. divided (λ l. AreNumbers whole line l i more) (inr ((λ m. false≢true (told.1 m)), are))))
