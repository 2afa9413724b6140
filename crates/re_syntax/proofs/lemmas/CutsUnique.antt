-- A text is cut into tokens in one way, and has one first fault, where tokens and their faults are
-- unique and exclude each other.
use Rattle.re_syntax.{proofs.Prelude.{◌≡◌, ℕ, ◌≤◌, length, drop, length-drop, arith, PatternFault, Bool, List, [], ◌∷◌, refl, sym, ap, ◌∙◌, subst, Text, FaultKind, Syntax}, specs.{declared.tokens.ItemPlace.ItemPlace, Tokens.Token, FirstFaults.{Around, Context, after, Cut, whole, next, FirstFault, no_token, too_deep, unclosed, later, IsToken, IsTokenFault, IsFirstFault}}}

-- two faults are of one kind and at one place
pub record SameFault (j k : FaultKind) (u v : Text) : Type 0 where
  pub kinds : j ≡ k
  pub places : u ≡ v

-- two tokens are the same, with the same text after them
pub record SameToken (j k : Token) (u v : Text) : Type 0 where
  pub tokens : j ≡ k
  pub rests : u ≡ v

-- what a syntax has to show
pub record IsExact (syntax : Syntax) : Type 0 where
  pub token : (g : Bool) (p : ItemPlace) (t u v : Text) (j k : Token) → IsToken syntax g p t u j → IsToken syntax g p t v k → SameToken j k u v
  pub fault : (g : Bool) (p : ItemPlace) (t u v : Text) (j k : FaultKind) → IsTokenFault syntax g p t j u → IsTokenFault syntax g p t k v → SameFault j k u v
  pub either : (g : Bool) (p : ItemPlace) (t u v : Text) (k : Token) (j : FaultKind) → IsToken syntax g p t u k → IsTokenFault syntax g p t j v → ⊥
  pub token_not_end : (g : Bool) (p : ItemPlace) (u : Text) (k : Token) → ¬ IsToken syntax g p [] u k
  pub fault_not_end : (g : Bool) (p : ItemPlace) (v : Text) (j : FaultKind) → ¬ IsTokenFault syntax g p [] j v

-- two levels around are the same
same_around : {a b : Around} {ks ls xs : List Around} → xs ≡ a ∷ ks → xs ≡ b ∷ ls → a ≡ b
same_around e f = let g = sym e ∙ f in cc

same_next : {k l : Token} {ks ls : List Token} → k ≡ l → ks ≡ ls → ◌≡◌ {A = List Token} (k ∷ ks) (l ∷ ls)
same_next p q = cc

-- two places of a text with one rest are one
same_place : (text : Text) {a b : ℕ} → a ≤ length text → b ≤ length text → drop a text ≡ drop b text → a ≡ b
same_place text h k e = omega (arith, simp length-drop at (ap length e))

fault_of : FaultKind → ℕ → PatternFault
fault_of kind at = record { kind = kind; at = at }

same_faults : (f g : PatternFault) → f.kind ≡ g.kind → f.at ≡ g.at → f ≡ g
unfolding fault_of
same_faults f g p q = ap (λ k. fault_of k f.at) p ∙ ap (fault_of g.kind) q

module _ {syntax : Syntax} (exact : IsExact syntax) where
  pub cuts-unique : {c : Context} {t : Text} {ks ls : List Token} → Cut syntax c t ks → Cut syntax c t ls → ks ≡ ls
  cuts-unique (whole e) (whole f) = refl
  cuts-unique (whole e) (next x n y) = absurd (exact.token_not_end _ _ _ _ x)
  cuts-unique (next x n y) (whole e) = absurd (exact.token_not_end _ _ _ _ x)
  cuts-unique (next {k = j} {ks = ks} x n y) (next {u = v} {k = l} {ks = ls} z m w) =
      let same = exact.token _ _ _ _ _ _ _ x z in
      same_next same.tokens (cuts-unique y (rw same.rests (rw same.tokens w)))

  pub fault-unique : {c : Context} {t u v : Text} {j k : FaultKind} → FirstFault syntax c t j u → FirstFault syntax c t k v → SameFault j k u v
  fault-unique (no_token f) (no_token g) = exact.fault _ _ _ _ _ _ _ f g
  fault-unique (no_token f) (too_deep k u x d) = absurd (exact.either _ _ _ _ _ _ _ x f)
  fault-unique (no_token f) (unclosed e) = absurd (exact.fault_not_end _ _ _ _ f)
  fault-unique (no_token f) (later k x n y) = absurd (exact.either _ _ _ _ _ _ _ x f)
  fault-unique (too_deep k u x d) (no_token f) = absurd (exact.either _ _ _ _ _ _ _ x f)
  fault-unique (too_deep k u x d) (too_deep l w z b) = record { kinds = refl; places = refl }
  fault-unique (too_deep k u x d) (unclosed e) = absurd (exact.token_not_end _ _ _ _ x)
  fault-unique (too_deep k u x d) (later l z n y) = absurd (n (rw (exact.token _ _ _ _ _ _ _ x z).tokens at d))
  fault-unique (unclosed e) (no_token f) = absurd (exact.fault_not_end _ _ _ _ f)
  fault-unique (unclosed e) (too_deep k u x d) = absurd (exact.token_not_end _ _ _ _ x)
  fault-unique (unclosed e) (unclosed f) = record { kinds = refl; places = ap (λ a. a.from) (same_around e f) }
  fault-unique (unclosed e) (later k x n y) = absurd (exact.token_not_end _ _ _ _ x)
  fault-unique (later k x n y) (no_token f) = absurd (exact.either _ _ _ _ _ _ _ x f)
  fault-unique (later k x n y) (too_deep l w z d) = absurd (n (rw (exact.token _ _ _ _ _ _ _ z x).tokens at d))
  fault-unique (later k x n y) (unclosed e) = absurd (exact.token_not_end _ _ _ _ x)
  fault-unique (later j x n y) (later {u = r} l z m b) =
      let same = exact.token _ _ _ _ _ _ _ x z in
      fault-unique y (rw same.rests (rw same.tokens b))

  pub fault-no_cut : {c : Context} {t u : Text} {j : FaultKind} {ks : List Token} → FirstFault syntax c t j u → Cut syntax c t ks → ⊥
  fault-no_cut (no_token f) (whole e) = exact.fault_not_end _ _ _ _ f
  fault-no_cut (no_token f) (next x n y) = exact.either _ _ _ _ _ _ _ x f
  fault-no_cut (too_deep k u x d) (whole e) = exact.token_not_end _ _ _ _ x
  fault-no_cut (too_deep k u x d) (next z n y) = n (rw (exact.token _ _ _ _ _ _ _ x z).tokens at d)
  fault-no_cut (unclosed e) (whole f) = let g = sym e ∙ f in cc
  fault-no_cut (unclosed e) (next x n y) = exact.token_not_end _ _ _ _ x
  fault-no_cut (later k x n y) (whole e) = exact.token_not_end _ _ _ _ x
  fault-no_cut {c} {t} (later j x n y) (next {u = r} {ks = ks} z m b) =
      let same = exact.token _ _ _ _ _ _ _ x z in
      fault-no_cut y (subst (λ s. Cut syntax (after t j c) s ks) (sym same.rests) (subst (λ k. Cut syntax (after t k c) r ks) (sym same.tokens) b))

  pub faults-unique : {text : Text} {f g : PatternFault} → IsFirstFault syntax text f → IsFirstFault syntax text g → f ≡ g
  faults-unique {text} {f} {g} x y =
      let same = fault-unique x.is_fault y.is_fault in
      same_faults f g same.kinds (same_place text x.within y.within same.places)
