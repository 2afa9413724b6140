-- What is found in a line after a change of the patterns.
use Rattle.{grep_session.proofs.{Prelude.{◌≡◌, ℕ, ◌+◌, ◌-◌, ◌<◌, ◌≤◌, ◌⊎◌, Bool, true, false, ◌||◌, List, [], ◌++◌, inl, inr, length, map, All, append-nil, anew, IsNew, MatchBool, Decides, refl, sym, ap, ◌∙◌, arith, nat_eq, Text, Expression, Matches, AreParts, Options, Matched, KeptLine, Change, Span, ArePartsAgain, has_new_parts, has_number, has_own, left_numbers, HasChanged, HasNewParts, AreMatching, AddsMatching, ArePartsKept, IsKept, span_places, false≢true, subst}, lemmas.{NumberLemmas.{At, at_either, at_first, at_rest, left_number, none_match, own_decides}, SurvivingLemmas.{found_matches, parts_survive}}}, std.{specs.Bool.⊤, proofs.lemmas.{List.Folds.list_any-append, Bool.Decides.{Decides-at, Decides-like, Decides-or}}}, re_syntax.proofs.lemmas.SomeOfJoined.{Any-append-cases, Any-left, Any-right}, grep_core.proofs.lemmas.Verdicts.{decided_no, decided_yes}}

-- ---- the parts of a line, kept or searched anew

-- if there is no number, there are no parts
no_parts : (line : Text) (entire : Bool) (es : List Expression) → AreMatching line entire 0 es [] → AreParts es line entire []
no_parts line entire es none = λ i j f. none_match line entire 0 es none (f.holds.0, f.holds.1, f.holds.2, f.holds.3, found_matches line entire f.holds.1 i j f.not_empty f.on_line f.is_whole f.holds.4)

module _ (es before : List Expression) (options : Options) (line : KeptLine) (numbers : List ℕ) (spans : List Span) where
  -- they are right, where those that are kept stay the parts
  parts_again : (matched anew : Bool) → (matched ≡ false → numbers ≡ []) → (anew ≡ false → (ps : List (ℕ × ℕ)) → AreParts before line.text options.line_regexp ps → AreParts es line.text options.line_regexp ps)
      → (anew ≡ false → ArePartsKept before options line.text line.found.spans) → AreMatching line.text options.line_regexp 0 es numbers → (options.only_matching ≡ true → ArePartsAgain matched anew es options line spans)
      → ArePartsKept es options line.text spans
  parts_again matched anew none stay kept matching are = by_flag options.only_matching refl
    where
      Kept : Bool → List Expression → List Span → Type 0
      Kept asked fs ss = MatchBool asked (AreParts fs line.text options.line_regexp (map span_places ss)) ⊤

      by_marks : (m a : Bool) → (m ≡ false → numbers ≡ []) → (a ≡ false → (ps : List (ℕ × ℕ)) → AreParts before line.text options.line_regexp ps → AreParts es line.text options.line_regexp ps)
          → (a ≡ false → Kept true before line.found.spans) → options.only_matching ≡ true → ArePartsAgain m a es options line spans → Kept options.only_matching es spans
      by_marks false a none stay kept e are =
          let nothing = no_parts line.text options.line_regexp es (rw (none refl) at matching) in
          rw are (rw e nothing)
      by_marks true true none stay kept e are = are
      by_marks true false none stay kept e are =
          rw are (rw e (stay refl (map span_places line.found.spans) (kept refl)))

      by_flag : (asked : Bool) → options.only_matching ≡ asked → Kept options.only_matching es spans
      by_flag true e = by_marks _ _ none stay (λ off. rw e at (kept off)) e (are e)
      by_flag false e = rw e tt

-- ---- a line after a change

neither : (a b : Bool) → (a || b) ≡ false → (a ≡ false) × (b ≡ false)
neither true b off = absurd (false≢true (sym off))
neither false b off = (refl, off)

-- an expression that is as good under one flag as under the other, or is none
turned : (line : Text) (u v : Bool) (es : List Expression) (first n : ℕ) (d : Expression) → (v ≡ u) ⊎ (es ≡ []) → At line u first es n d → At line v first es n d
turned line u v es first n d (inl same) p = rw same p
turned line u v es first n d (inr none) p = absurd (omega (arith, ap length none))

back_again : {v u : Bool} {es : List Expression} → (v ≡ u) ⊎ (es ≡ []) → (u ≡ v) ⊎ (es ≡ [])
back_again (inl same) = inl (sym same)
back_again (inr none) = inr none

module _ {change : Change} {es : List Expression} {options : Options} (h : HasChanged change es options) (line : KeptLine) (k : IsKept h.before h.was line) where
  abbrev text : Text
  text = line.text

  abbrev whole : Bool
  whole = options.line_regexp

  was : AreMatching text h.was.line_regexp 0 (h.front ++ (h.gone ++ h.back)) line.found.numbers
  was = rw h.old at k.matching

  front_alike : (whole ≡ h.was.line_regexp) ⊎ (h.front ≡ [])
  front_alike = elim h.alike [ inl same ↦ inl same | inr none ↦ inr none.0 ]

  back_alike : (whole ≡ h.was.line_regexp) ⊎ (h.back ≡ [])
  back_alike = elim h.alike [ inl same ↦ inl same | inr none ↦ inr none.1 ]

  -- the numbers that are left are those of the expressions that stay
  abbrev left : List ℕ
  left = left_numbers change.first change.gone (change.gone - change.come) line.found.numbers

  abbrev Stays : ℕ → Expression → Type 0
  Stays n d = At text whole 0 h.front n d ⊎ At text whole (0 + length h.front + length h.come) h.back n d

  abbrev Left : ℕ → Type 0
  Left n = (m : ℕ) × (has_number m line.found.numbers ≡ true) × (((m < change.first) × (n ≡ m)) ⊎ ((change.first + change.gone ≤ m) × (n ≡ m - (change.gone - change.come))))

  -- a later expression has its place after those that came
  module _ (n m : ℕ) (d : Expression) where
    moves : change.first + change.gone ≤ m → n ≡ m - (change.gone - change.come) → At text h.was.line_regexp (0 + length h.front + length h.gone) h.back m d → At text whole (0 + length h.front + length h.come) h.back n d
    moves low same p = turned text h.was.line_regexp whole h.back _ n d back_alike (elim h.fits [
      | inl fewer ↦ (
          let place : m - (0 + length h.front + length h.gone) ≡ n - (0 + length h.front + length h.come) = omega arith in
          (omega arith, omega arith, rw place at p.2))
      | inr none ↦ absurd (omega (arith, ap length none))
    ])

    moved : At text whole (0 + length h.front + length h.come) h.back n d → m ≡ n + (change.gone - change.come) → (change.first + change.gone ≤ m) × (n ≡ m - (change.gone - change.come)) × At text h.was.line_regexp (0 + length h.front + length h.gone) h.back m d
    moved q is = elim h.fits [
      | inl fewer ↦ (
          let p = turned text whole h.was.line_regexp h.back _ n d (back_again back_alike) q in
          let place : n - (0 + length h.front + length h.come) ≡ m - (0 + length h.front + length h.gone) = omega arith in
          (omega arith, omega arith, (omega arith, omega arith, rw place at p.2)))
      | inr none ↦ absurd (omega (arith, ap length none))
    ]

  left_decides : (n : ℕ) (d : Expression) → Decides (has_number n left) (Stays n d)
  left_decides n d = Decides-like _ to from (left_number change.first change.gone (change.gone - change.come) n line.found.numbers)
    where
      to : Left n → Stays n d
      to s = elim (at_either text h.was.line_regexp 0 h.front (h.gone ++ h.back) s.0 d ((was s.0 d).0 s.1)) [
        | inl f ↦ elim s.2 [
          | inl low ↦ inl (rw low.1 (turned text h.was.line_regexp whole h.front 0 s.0 d front_alike f))
          | inr high ↦ absurd (omega (arith, high.0, f.1, h.at))
        ]
        | inr r ↦ elim s.2 [
          | inl low ↦ absurd (omega (arith, low.0, r.0, h.at))
          | inr high ↦ elim (at_either text h.was.line_regexp (0 + length h.front) h.gone h.back s.0 d r) [
            | inl g ↦ absurd (omega (arith, high.0, g.1, h.at, h.went))
            | inr b ↦ inr (moves n s.0 d high.0 high.1 b)
          ]
        ]
      ]

      from : Stays n d → Left n
      from (inl f) = (n, (was n d).1 (at_first text h.was.line_regexp 0 _ _ n d (turned _ _ _ _ 0 n d (back_again front_alike) f)), inl (omega arith, refl))
      from (inr b) =
          let m = n + (change.gone - change.come) in
          let q = moved n m d b refl in
          (m, (was m d).1 (at_rest text h.was.line_regexp 0 _ _ m d (at_rest text h.was.line_regexp _ _ _ m d q.2)), inr (q.0, q.1))

  -- whether one that went matched it
  pub went_decides : options ≡ h.was → Decides (has_own change.first change.gone line.found.numbers) (Matched h.gone options text)
  went_decides same = rw same (own_decides _ _ _ _ _ _ _ _ h.at h.went was)

  module _ (new : List ℕ) (a : AddsMatching text whole change.first h.come left new) where
    -- the numbers are right
    pub numbers_right : AreMatching text whole 0 es new
    numbers_right = subst (λ l. AreMatching text whole 0 l new) (sym h.new) (λ n d. Decides-at _ _ (ap (has_number n) a.added ∙ list_any-append (λ m. nat_eq m n) left a.found) (Decides-like _ (to n d) (from n d) (Decides-or _ _ (left_decides n d) (found n d))))
      where
        found : AreMatching text whole (0 + length h.front) h.come a.found
        found = subst (λ n. AreMatching text whole n h.come a.found) (omega (arith, h.at)) a.are_found

        to : (n : ℕ) (d : Expression) → Stays n d ⊎ At text whole (0 + length h.front) h.come n d → At text whole 0 (h.front ++ (h.come ++ h.back)) n d
        to n d (inl (inl f)) = at_first text whole 0 _ _ n d f
        to n d (inl (inr b)) = at_rest text whole 0 _ _ n d (at_rest text whole _ _ _ n d b)
        to n d (inr c) = at_rest text whole 0 _ _ n d (at_first text whole _ _ _ n d c)

        from : (n : ℕ) (d : Expression) → At text whole 0 (h.front ++ (h.come ++ h.back)) n d → Stays n d ⊎ At text whole (0 + length h.front) h.come n d
        from n d p = elim (at_either text whole 0 _ _ n d p) [
          | inl f ↦ inl (inl f)
          | inr r ↦ elim (at_either text whole _ _ _ n d r) [
            | inl c ↦ inr c
            | inr b ↦ inl (inr b)
          ]
        ]

    came_decides : Decides (has_own change.first change.come new) (Matched h.come options text)
    came_decides = own_decides _ _ _ _ _ _ _ _ h.at h.came (rw h.new at numbers_right)

    abbrev again : Bool
    again = has_own change.first change.gone line.found.numbers || has_own change.first change.come new

    again_decides : options ≡ h.was → Decides again (Matched (h.gone ++ h.come) options text)
    again_decides same =
        let P : Expression → Type 0 = λ e. Matches e text whole in
        Decides-like again (λ p. elim p [ inl g ↦ Any-left P h.gone h.come g | inr c ↦ Any-right P h.gone h.come c ]) (Any-append-cases P h.gone h.come) (Decides-or _ _ (went_decides same) came_decides)

    -- whether its parts are searched
    pub parts_decides : Decides (has_new_parts change line.found.numbers new) (HasNewParts change h.gone options h.come text)
    parts_decides = by_flag change.all_parts refl
      where
        by_flag : (all : Bool) → change.all_parts ≡ all → Decides (all || again) (MatchBool all ⊤ (Matched (h.gone ++ h.come) options text))
        by_flag true is = decided_yes tt
        by_flag false is = again_decides (h.same is)

    -- what is found in it is right
    pub line_right : (matched anew : Bool) (spans : List Span) → (matched ≡ false → new ≡ []) → (anew ≡ false → has_new_parts change line.found.numbers new ≡ false)
        → (options.only_matching ≡ true → ArePartsAgain matched anew es options line spans) → IsKept es options (record { text = text; found = record { numbers = new; spans = spans } })
    line_right matched anew spans none same are = record {
      matching = numbers_right;
      parts = parts_again es h.before options line new spans matched anew none (λ off. stay (same off)) (λ off. still (same off)) numbers_right are;
    }
      where
        under : has_new_parts change line.found.numbers new ≡ false → options ≡ h.was
        under off = h.same (neither change.all_parts again off).0

        still : has_new_parts change line.found.numbers new ≡ false → ArePartsKept h.before options text line.found.spans
        still off = subst (λ (o : Options). ArePartsKept h.before o text line.found.spans) (sym (under off)) k.parts

        stay : has_new_parts change line.found.numbers new ≡ false → (ps : List (ℕ × ℕ)) → AreParts h.before text whole ps → AreParts es text whole ps
        stay off ps are =
            let no = neither (has_own change.first change.gone line.found.numbers) (has_own change.first change.come new) (neither change.all_parts again off).1 in
            subst (λ l. AreParts l text whole ps) (sym h.new) (parts_survive text whole h.front h.gone h.come h.back (λ g. false≢true (sym no.0 ∙ (went_decides (under off)).1 g)) (λ c. false≢true (sym no.1 ∙ came_decides.1 c)) 0 ps
            (subst (λ l. AreParts l text whole ps) h.old are))

-- ---- all lines anew

-- all went, and others came, under any options
abbrev pub all_anew : (gone come : List Expression) (was options : Options) → HasChanged (anew (length gone) (length come)) come options
all_anew gone come was options = record {
  front = [];
  gone = gone;
  come = come;
  back = [];
  before = gone;
  was = was;
  old = sym (append-nil gone);
  new = sym (append-nil come);
  at = refl;
  went = refl;
  came = refl;
  fits = inr refl;
  alike = inr (refl, refl);
  same = λ e. absurd (false≢true (sym e));
  narrows = λ e. absurd (false≢true e);
}

-- none went, and none came
abbrev pub parts_anew : (es : List Expression) (was options : Options) → options.line_regexp ≡ was.line_regexp → HasChanged (anew 0 0) es options
parts_anew es was options same = record {
  front = [];
  gone = [];
  come = [];
  back = es;
  before = es;
  was = was;
  old = refl;
  new = refl;
  at = refl;
  went = refl;
  came = refl;
  fits = inl (omega arith);
  alike = inl same;
  same = λ e. absurd (false≢true (sym e));
  narrows = λ e. absurd (false≢true e);
}

-- in new lines no expression has found anything
pub new_kept : (options : Options) (lines : List KeptLine) → All IsNew lines → All (IsKept [] (record options { only_matching = false })) lines
new_kept options lines new i d lt = record {
  matching = rw (new i d lt) (λ n d. decided_no (λ p. omega arith));
  parts = tt;
}
