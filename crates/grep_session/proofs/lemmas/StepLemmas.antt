-- The cost of lines, and the steps that a search of them takes.
use Rattle.{grep_session.proofs.Prelude.{◌≡◌, ℕ, ◌+◌, Bool, true, false, MatchBool, List, [], ◌∷◌, ◌++◌, inl, inr, length, map, Ok, refl, sym, ap, ◌∙◌, arith, length-map, Text, Expression, Matcher, matched_expression, Steps, Options, Chosen, IfHolds, Matches, Inputs, AreMeant, AreMatchers, Change, anew, Edit, Applies, Matched, TakesSteps, Touched, Touches, pairs_cost, parting, parts_alone, searched_by, IsSought, IsParted, HasNewParts, SearchesEach}, std.specs.Bool.⊤, re_syntax.proofs.lemmas.{Decisions.{Any-first, dec_both}, SomeOfJoined.Any-single}, re_meter.proofs.lemmas.Adding.{adds_none, adds_both}, grep_core.proofs.lemmas.{ChooseLaws.{Chosen-exist, EachGives-append}, Decided.dec_matched}}

-- ---- lines

-- whether the parts of a line are searched is decided
dec_new_parts : (change : Change) (gone : List Expression) (options : Options) (come : List Expression) (line : Text) → Dec (HasNewParts change gone options come line)
dec_new_parts change gone options come line = by_flag change.all_parts
  where
    by_flag : (all : Bool) → Dec (MatchBool all ⊤ (Matched (gone ++ come) options line))
    by_flag true = yes tt
    by_flag false = dec_matched (gone ++ come) options line

-- so is whether it is searched
dec_sought : (change : Change) (gone : List Expression) (options : Options) (line : Text) → Dec (IsSought change gone options line)
dec_sought change gone options line = by_flag change.narrower
  where
    by_flag : (narrower : Bool) → Dec (MatchBool narrower (Matched gone options line) ⊤)
    by_flag true = dec_matched gone options line
    by_flag false = yes tt

-- the cost of pairs with lines and more lines
pub pairs_cost-append : (many : ℕ) (lines more : List Text) → pairs_cost many (lines ++ more) ≡ pairs_cost many lines + pairs_cost many more
pairs_cost-append many [] more = omega arith
pairs_cost-append many (line ∷ lines) more = let rest = pairs_cost-append many lines more in omega arith

module _ (change : Change) (gone come es : List Expression) (options : Options) where
  -- no line was searched
  pub not_searched : (lines : List Text) (steps : Steps) → SearchesEach change gone come es options lines steps steps
  not_searched lines steps =
      let paired = Chosen-exist (IsSought change gone options) (dec_sought change gone options) lines in
      let parted = Chosen-exist (IsParted change gone options come es) (λ line. dec_both (dec_matched es options line) (dec_new_parts change gone options come line)) lines in
      record { paired = paired.0; are_paired = paired.1; parted = parted.0; are_parted = parted.1; few = adds_none _ _ steps }

  -- lines and more lines
  pub each_both : (lines more all : List Text) (begun mid ended : Steps) → all ≡ lines ++ more → SearchesEach change gone come es options lines begun mid → SearchesEach change gone come es options more mid ended → SearchesEach change gone come es options all begun ended
  each_both lines more all begun mid ended both a b =
      let n = change.come in
      let m = parting es options in
      let p = pairs_cost n a.paired + pairs_cost m a.parted in
      let q = pairs_cost n b.paired + pairs_cost m b.parted in
      let sum : p + q ≡ pairs_cost n (a.paired ++ b.paired) + pairs_cost m (a.parted ++ b.parted) = omega (arith, pairs_cost-append n a.paired b.paired, pairs_cost-append m a.parted b.parted) in
      rw both (record {
        paired = a.paired ++ b.paired;
        are_paired = EachGives-append _ lines more a.paired b.paired a.are_paired b.are_paired;
        parted = a.parted ++ b.parted;
        are_parted = EachGives-append _ lines more a.parted b.parted a.are_parted b.are_parted;
        few = rw sum at (adds_both p q p q begun mid ended a.few b.few);
      })

  -- the steps for the first lines are within the cost of all
  pub each_front : (lines more all : List Text) (begun ended : Steps) → lines ++ more ≡ all → SearchesEach change gone come es options lines begun ended → SearchesEach change gone come es options all begun ended
  each_front lines more all begun ended both a = each_both lines more all begun ended ended (sym both) a (not_searched more ended)

-- the elements of which all are chosen
pub chosen_all : {A : Type 0} (P : A → Type 0) (xs ys : List A) → ((x : A) → P x) → Chosen P xs ys → ys ≡ xs
chosen_all P [] ys always c = c
chosen_all P (x ∷ xs) ys always c = elim c.2 [ inl h ↦ c.4 ∙ (λ i. h.1 i ++ chosen_all P xs c.1 always c.3 i) | inr h ↦ absurd (h.0 (always x)) ]

-- the elements that one expression matches
pub chosen_one : (e : Expression) (options : Options) (xs ys : List Text) → Chosen (Matched (e ∷ []) options) xs ys → Chosen (λ line. Matches e line options.line_regexp) xs ys
chosen_one e options [] ys c = c
chosen_one e options (x ∷ xs) ys c =
    let P : Expression → Type 0 = λ d. Matches d x options.line_regexp in
    let one : IfHolds (P e) (c.0 ≡ x ∷ []) (c.0 ≡ []) = elim c.2 [ inl h ↦ inl (Any-single P e h.0, h.1) | inr h ↦ inr ((λ m. h.0 (Any-first P e [] m)), h.1) ] in
    (c.0, c.1, one, chosen_one e options xs c.1 c.3, c.4)

-- those with two properties are those with the first of those with the second
chosen_both : {A : Type 0} (Q P : A → Type 0) → ((x : A) → Dec (P x)) → (xs zs : List A) → Chosen (λ x. Q x × P x) xs zs → (ys : List A) × Chosen P xs ys × Chosen Q ys zs
chosen_both Q P d [] zs c = ([], refl, c)
chosen_both {A} Q P d (x ∷ xs) zs c = by_verdict (d x) (chosen_both Q P d xs c.1 c.3)
  where
    by_verdict : Dec (P x) → (ys : List A) × Chosen P xs ys × Chosen Q ys c.1 → (ys : List A) × Chosen P (x ∷ xs) ys × Chosen Q ys zs
    by_verdict (yes p) rest = (x ∷ rest.0, (x ∷ [], rest.0, inl (p, refl), rest.1, refl), (c.0, c.1, elim c.2 [ inl h ↦ inl (h.0.0, h.1) | inr h ↦ inr ((λ q. h.0 (q, p)), h.1) ], rest.2, c.4))
    by_verdict (no n) rest = elim c.2 [
      | inl h ↦ absurd (n h.0.1)
      | inr h ↦ (rest.0, ([], rest.0, inr (n, refl), rest.1, refl), rw (c.4 ∙ ap (λ l. l ++ c.1) h.1) rest.2)
    ]

-- ---- an edit

-- no step was taken
pub takes_none : (edit : Edit) (old : Inputs) (steps : Steps) → TakesSteps edit old steps steps
takes_none edit old steps = record { most = 0; is_most = inl refl; few = adds_none 0 0 steps }

-- what an accepted edit touches was searched
pub takes_touched : (edit : Edit) (old new : Inputs) (change : Change) (gone come es : List Expression) (lines : List Text) (begun ended : Steps) → Applies edit old (Ok new) → AreMeant new.syntax new.options new.patterns es → SearchesEach change gone come es new.options lines begun ended
    → ((paired parted : List Text) → Chosen (IsSought change gone new.options) lines paired → Chosen (HasNewParts change gone new.options come) lines parted → (t : Touched) × Touches edit old t × (t.lines ≡ parted) × (pairs_cost t.patterns t.paired ≡ pairs_cost change.come paired))
    → TakesSteps edit old begun ended
takes_touched edit old new change gone come es lines begun ended applies meant s touches =
    let both = chosen_both (Matched es new.options) (HasNewParts change gone new.options come) (dec_new_parts change gone new.options come) lines s.parted s.are_parted in
    let t = touches s.paired both.0 s.are_paired both.1 in
    let parts = pairs_cost (parting es new.options) s.parted in
    record {
      most = pairs_cost change.come s.paired + parts;
      is_most = inr (Ok new, applies, record { es = es; are_meant = meant; touched = t.0; are_touched = t.1; parted = s.parted; are_parted = rw t.2 both.2; is_sum = ap (λ n. n + parts) (sym t.3) });
      few = s.few;
    }

-- lines were searched by all patterns
pub takes_lines : (edit : Edit) (old new : Inputs) (was : ℕ) (gone : List Expression) (matchers : List Matcher) (lines : List Text) (begun ended : Steps) → Applies edit old (Ok new) → Touches edit old (searched_by (length old.patterns) lines) → AreMatchers new.syntax new.options new.patterns matchers → new.patterns ≡ old.patterns
    → SearchesEach (anew was (length (map matched_expression matchers))) gone (map matched_expression matchers) (map matched_expression matchers) new.options lines begun ended → TakesSteps edit old begun ended
takes_lines edit old new was gone matchers lines begun ended applies touches made same s =
    let es = map matched_expression matchers in
    let many : length es ≡ length old.patterns = cc (length-map matchers matched_expression, made.counted) in
    takes_touched _ _ _ _ _ es es _ _ _ applies made.meant s (λ paired parted p q.
    (searched_by (length old.patterns) lines, touches, sym (chosen_all (λ line. ⊤) _ _ (λ line. tt) q), (λ i. pairs_cost (sym many i) (sym (chosen_all (λ line. ⊤) _ _ (λ line. tt) p) i))))

-- no pattern, no pair
pub pairs_cost-none : (lines : List Text) → pairs_cost 0 lines ≡ 0
pairs_cost-none [] = refl
pairs_cost-none (line ∷ lines) = let rest = pairs_cost-none lines in omega arith

-- the parts of lines were searched
pub takes_parts : (edit : Edit) (old new : Inputs) (gone come es : List Expression) (lines : List Text) (begun ended : Steps) → Applies edit old (Ok new) → Touches edit old (parts_alone lines) → AreMeant new.syntax new.options new.patterns es → SearchesEach (anew 0 0) gone come es new.options lines begun ended → TakesSteps edit old begun ended
takes_parts edit old new gone come es lines begun ended applies touches meant s =
    takes_touched _ _ _ _ _ _ es _ _ _ applies meant s (λ paired parted p q. (parts_alone lines, touches, sym (chosen_all (λ line. ⊤) _ _ (λ line. tt) q), sym (pairs_cost-none _)))
