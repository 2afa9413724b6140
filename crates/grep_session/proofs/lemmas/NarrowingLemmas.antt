-- A pattern's text is in that of another: it matches each line that the other one matches.
use Rattle.{grep_session.proofs.Prelude.{take-append-drop, ◌≡◌, ℕ, ◌+◌, ◌≤◌, Bool, true, false, List, [], ◌∷◌, ◌++◌, length, map, take, drop, Option, None, Some, is_some, Decides, MatchBool, if◌then◌else◌, refl, sym, ap, ◌∙◌, arith, length-append, map-append, drop-append_seam, false≢true, Text, Expression, byte, cat, sequence, Holds, Matches, folded, Syntax, Fixed, IsMeant, Options, FindsNeedle, Narrows, subst}, re_syntax.proofs.lemmas.{FixedTokens.fixed_spelled, FixedStrings.{sequence-cat, cat-sequence}, FoldedLaws.folded-cat, HoldsDecided.Holds-le, SpelledUnique.spells_one}, re_runs.proofs.lemmas.Occurrences.{occurs-stands, stands-occurs}}

-- ---- sequences

-- the members of two sequences hold where the first does, and then the second
cat-both : (line : Text) (xs ys : List Expression) (i j : ℕ) → Holds line (cat (xs ++ ys)) i j → (k : ℕ) × Holds line (cat xs) i k × Holds line (cat ys) k j
cat-both line [] ys i j h = (i, refl, h)
cat-both line (x ∷ xs) ys i j h = let rest = cat-both line xs ys h.0 j h.2 in (rest.0, (h.0, h.1, rest.1), rest.2)

folded-sequence : (es : List Expression) → folded (sequence es) ≡ sequence (map folded es)
folded-sequence [] = refl
folded-sequence (e ∷ []) = refl
folded-sequence (e ∷ f ∷ es) = folded-cat (e ∷ f ∷ es)

-- the expression of a string, and its members
abbrev pub string_expression : Bool → Text → Expression
string_expression fold t = if fold then folded (sequence (map byte t)) else sequence (map byte t)

abbrev pub members : Bool → Text → List Expression
members true t = map folded (map byte t)
members false t = map byte t

are_members : (fold : Bool) (t : Text) → string_expression fold t ≡ sequence (members fold t)
are_members true t = folded-sequence (map byte t)
are_members false t = refl

members-append : (fold : Bool) (t u : Text) → members fold (t ++ u) ≡ members fold t ++ members fold u
members-append true t u = cc (map-append byte t u, map-append folded (map byte t) (map byte u))
members-append false t u = map-append byte t u

module _ (line : Text) (fold : Bool) where
  -- a string that is in another one matches where that does
  inner_holds : (before old after : Text) (i j : ℕ) → j ≤ length line → Holds line (string_expression fold (before ++ (old ++ after))) i j → Matches (string_expression fold old) line false
  inner_holds before old after i j within h =
      let all = sequence-cat line (members fold (before ++ (old ++ after))) i j (subst (λ e. Holds line e i j) (are_members fold (before ++ (old ++ after))) h) in
      let first = cat-both line (members fold before) (members fold (old ++ after)) i j (subst (λ es. Holds line (cat es) i j) (members-append fold before (old ++ after)) all) in
      let next = cat-both line (members fold old) (members fold after) first.0 j (subst (λ es. Holds line (cat es) first.0 j) (members-append fold old after) first.2) in
      let up = Holds-le line (cat (members fold after)) next.0 j next.2 in
      (first.0, next.0, omega (arith, up, within), subst (λ e. Holds line e first.0 next.0) (sym (are_members fold old)) (cat-sequence line (members fold old) first.0 next.0 next.1))

-- the expression that a string means
string_means : (syntax : Syntax) (fold : Bool) (t : Text) (e : Expression) → syntax ≡ Fixed → IsMeant syntax fold t e → e ≡ string_expression fold t
string_means syntax fold t e fixed m =
    let spelled = rw fixed at m.1 in
    m.2 ∙ ap (λ s. if fold then folded s else s) (spells_one t Fixed m.0 (sequence (map byte t)) spelled (fixed_spelled t))

-- a pattern whose text is in that of another matches its lines
pub narrower_string : (syntax : Syntax) (options : Options) (old new : Text) (gone come : Expression) → Narrows syntax options old new → IsMeant syntax options.ignore_case old gone → IsMeant syntax options.ignore_case new come → (line : Text) → Matches come line options.line_regexp → Matches gone line options.line_regexp
narrower_string syntax options old new gone come narrows was is line m =
    let fold = options.ignore_case in
    let there = rw narrows.1 at m in
    let whole : string_expression fold new ≡ string_expression fold (narrows.3.0 ++ (old ++ narrows.3.1)) = rw narrows.3.2 in
    let holds = rw (string_means syntax fold new come narrows.0 is ∙ whole) at there.3 in
    let inner = inner_holds line fold narrows.3.0 old narrows.3.1 there.0 there.1 there.2 holds in
    rw narrows.1 (rw (string_means syntax fold old gone narrows.0 was) inner)

-- ---- whether a text is in another

-- where all else is so, it decides whether the new text narrows
pub narrows_if : (syntax : Syntax) (options : Options) (old new : Text) (inside : Bool) → syntax ≡ Fixed → options.line_regexp ≡ false → (old ≡ [] → ⊥) → Decides inside ((before : Text) × (after : Text) × (new ≡ before ++ (old ++ after)))
    → MatchBool inside (Narrows syntax options old new) (Narrows syntax options old new → ⊥)
narrows_if syntax options old new true fixed partly some d = (fixed, partly, some, d.0 refl)
narrows_if syntax options old new false fixed partly some d = λ n. false≢true (d.1 n.3)

-- a search for it says so
pub finds_inside : (old new : Text) (r : Option ℕ) → FindsNeedle new old 0 r → Decides (is_some r) ((before : Text) × (after : Text) × (new ≡ before ++ (old ++ after)))
finds_inside old new None none = (λ h. absurd (false≢true h), λ s. absurd (nowhere s))
  where
    nowhere : (before : Text) × (after : Text) × (new ≡ before ++ (old ++ after)) → ⊥
    nowhere s =
        let long : length new ≡ length s.0 + length (old ++ s.1) = cc (s.2, length-append s.0 (old ++ s.1)) in
        let there : drop (length s.0) new ≡ old ++ s.1 = cc (s.2, drop-append_seam s.0 (old ++ s.1)) in
        let more = length-append old s.1 in
        none (length s.0) (omega arith) (omega arith) (stands-occurs new old s.1 (length s.0) (omega arith) there)
finds_inside old new (Some k) finds = (
  λ h. (take k new, drop (length old) (drop k new), sym (take-append-drop k new) ∙ ap (λ t. take k new ++ t) (occurs-stands new old k finds.1)),
  λ s. refl,
)
