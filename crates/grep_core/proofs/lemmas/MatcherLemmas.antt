-- The matchers of patterns, one more at a time.
use Rattle.{grep_core.proofs.Prelude.{◌≡◌, ℕ, ◌+◌, ◌<◌, List, [], ◌∷◌, ◌++◌, All, ◌⊎◌, inl, inr, length, map, take, get_or, refl, sym, ap, ◌∙◌, subst, arith, length_push, map-append, Bool, All-push, AllZip, PatternFault, Syntax, Text, IsMeant, Matcher, IsSmallFor, IsReadable, IsRefusedFor, IsOutOfMemory, matched_expression, expressions_of, wants_whole, Options, IsFirstRefused, AreMatchers}, re_search.proofs.lemmas.ReadingLaws.refused_unreadable}

-- two lists, element by element, joined
pub AllZip-append : {X Y : Type 0} (P : X → Y → Type 0) (xs vs : List X) (ys ws : List Y) → AllZip P xs ys → AllZip P vs ws → AllZip P (xs ++ vs) (ys ++ ws)
AllZip-append P [] _ [] _ h k = k
AllZip-append P [] _ (y ∷ ys) _ h k = absurd h
AllZip-append P (x ∷ xs) _ [] _ h k = absurd h
AllZip-append P (x ∷ xs) vs (y ∷ ys) ws h k = (h.0, AllZip-append P xs vs ys ws h.1 k)

-- what is after the elements of a list
at_end : (ts : List Text) (t : Text) (rest : List Text) → (take (length ts) (ts ++ t ∷ rest) ≡ ts) × (get_or (ts ++ t ∷ rest) (length ts) [] ≡ t) × (length ts < length (ts ++ t ∷ rest))
at_end [] t rest = (refl, refl, omega arith)
at_end (u ∷ ts) t rest = let h = at_end ts t rest in (ap (λ l. u ∷ l) h.0, h.1, omega (arith, h.2))

module _ (syntax : Syntax) (options : Options) where
  -- no pattern was read yet
  pub AreMatchers-none : (texts : List Text) (matchers : List Matcher) → texts ≡ [] → matchers ≡ [] → AreMatchers syntax options texts matchers
  AreMatchers-none texts matchers e f =
      rw e (rw f (record { meant = tt; wholes = λ i d h. absurd (let false : ⊥ = omega (arith, h) in false); readable = λ i d h. absurd (let false : ⊥ = omega (arith, h) in false); counted = refl }))

  module _ (texts : List Text) (matchers : List Matcher) (text : Text) (s : AreMatchers syntax options texts matchers) where
    -- one more was read
    pub AreMatchers-push : (all : List Text) (new : List Matcher) (m : Matcher) → all ≡ texts ++ text ∷ [] → new ≡ matchers ++ m ∷ [] → IsMeant syntax options.ignore_case text (matched_expression m) → wants_whole m ≡ options.line_regexp → IsSmallFor syntax options.ignore_case (matched_expression m)
        → AreMatchers syntax options all new
    AreMatchers-push all new m both pushed meant whole small =
        rw both (rw pushed (record {
          meant =
              rw (map-append matched_expression matchers (m ∷ []))
              (AllZip-append (λ t e. IsMeant syntax options.ignore_case t e) texts (text ∷ []) (expressions_of matchers) (matched_expression m ∷ []) s.meant (meant, tt));
          wholes = rw (map-append wants_whole matchers (m ∷ [])) (All-push (λ w. w ≡ options.line_regexp) (map wants_whole matchers) (wants_whole m) s.wholes whole);
          readable = All-push (IsReadable syntax options.ignore_case) texts text s.readable (matched_expression m, meant, small);
          counted = length_push matchers m ∙ ap (λ n. n + 1) s.counted ∙ sym (length_push texts text);
        }))

-- a text after readable ones is refused, or memory ran out
pub refused_or_memory : (syntax : Syntax) (fold : Bool) (texts : List Text) (text : Text) → All (IsReadable syntax fold) texts → (rest all : List Text) → texts ++ (text ∷ rest) ≡ all → (fault : PatternFault) →
    IsOutOfMemory fault ⊎ IsRefusedFor syntax fold text fault → (place : ℕ) → length texts ≡ place → IsOutOfMemory fault ⊎ IsFirstRefused syntax fold all place fault
refused_or_memory syntax fold texts text readable rest all is fault (inl memory) place at = inl memory
refused_or_memory syntax fold texts text readable rest all is fault (inr shown) place at =
    let h = at_end texts text rest in
    inr (subst (λ n. IsFirstRefused syntax fold all n fault) at (rw (← is) (record {
      in_texts = h.2;
      readable_before = rw h.0 readable;
      unreadable = λ r. refused_unreadable syntax fold text fault shown (rw h.1 at r);
      shown = rw h.1 shown;
    })))
