-- Patterns that are joined into choices, one more at a time.
use Rattle.grep_utility.proofs.{Prelude.{◌≡◌, ◌≤◌, All, List, [], ◌∷◌, ◌++◌, Bool, length, length-append, map, refl, sym, ap, ◌∙◌, arith, map-append, length-map, append_assoc, append-nil, All-push, Syntax, Text, Expression, Matcher, matched_expression, expressions_of, room_of, wants_whole, Options, Pattern, meant_by, ArePatterns, AreGrouped, ServeFor, most_kept, IsSameChoice}, lemmas.ServingLemmas.{same_trans, same_append, more_choices, patterns_meant}}

-- a list that isn't empty has some element
pub not_none : {A : Type 0} (xs : List A) → (xs ≡ [] → ⊥) → 1 ≤ length xs
not_none [] h = absurd (h refl)
not_none (x ∷ xs) h = omega arith

-- one matcher more is as the others are
more_alike : {A : Type 0} (f : Matcher → A) (P : A → Type 0) (matchers : List Matcher) (m : Matcher) (new : List Matcher) → new ≡ matchers ++ m ∷ [] → All P (map f matchers) → P (f m) → All P (map f new)
more_alike f P matchers m new is all one = rw (ap (map f) is ∙ map-append f matchers (m ∷ [])) (All-push P (map f matchers) (f m) all one)

module _ (whole : Bool) where
  module _ (es : List Expression) (matchers : List Matcher) (choice : List Expression) (g : AreGrouped whole es matchers choice) where
    abbrev ms : List Expression
    ms = expressions_of matchers

    -- one expression more joins the choice
    pub pattern_joins : (e : Expression) (new : List Expression) → new ≡ choice ++ e ∷ [] → AreGrouped whole (es ++ e ∷ []) matchers new
    pattern_joins e new is = record {
      same = rw (append_assoc ms choice (e ∷ []) ∙ ap (λ c. ms ++ c) (sym is)) at (more_choices (ms ++ choice) es (e ∷ []) e g.same (omega arith) refl);
      fewer = omega (arith, ap length is, length-append choice (e ∷ []), length-append es (e ∷ []));
      wholes = g.wholes;
      rooms = g.rooms;
    }

    -- the choice gets its matcher
    pub choice_closes : (m : Matcher) (new : List Matcher) → new ≡ matchers ++ m ∷ [] → 1 ≤ length choice → IsSameChoice (matched_expression m ∷ []) choice → wants_whole m ≡ whole → room_of m ≤ most_kept → AreGrouped whole es new []
    choice_closes m new is some means answers room = record {
      same = rw all closed;
      fewer = omega (arith, ap length is, length-append matchers (m ∷ []));
      wholes = more_alike wants_whole (λ w. w ≡ whole) matchers m new is g.wholes answers;
      rooms = more_alike room_of (λ n. n ≤ most_kept) matchers m new is g.rooms room;
    }
      where
        all : expressions_of new ++ [] ≡ ms ++ matched_expression m ∷ []
        all = cc (append-nil (expressions_of new), map-append matched_expression matchers (m ∷ []))

        closed : IsSameChoice (ms ++ matched_expression m ∷ []) es
        closed = same_trans _ (ms ++ choice) es (same_append ms ms _ choice (λ line i j. (λ a. a, λ a. a)) means) g.same

  -- one expression more gets a matcher of its own
  pub pattern_alone : (es : List Expression) (matchers : List Matcher) → AreGrouped whole es matchers [] → (e : Expression) (m : Matcher) (new : List Matcher) → new ≡ matchers ++ m ∷ [] → matched_expression m ≡ e → wants_whole m ≡ whole → room_of m ≤ most_kept → AreGrouped whole (es ++ e ∷ []) new []
  pattern_alone es matchers g e m new is means answers room =
      choice_closes _ matchers (e ∷ []) (pattern_joins es _ [] g e _ refl) m _ is (omega arith) (rw means (λ line i j. (λ a. a, λ a. a))) answers room

-- all patterns have their matchers
pub groups_serve : (syntax : Syntax) (options : Options) (texts : List Text) (patterns : List Pattern) (matchers : List Matcher) → ArePatterns syntax options.ignore_case texts patterns →
    AreGrouped options.line_regexp (map (meant_by options.ignore_case) patterns) matchers [] → ServeFor syntax options texts matchers
groups_serve syntax options texts patterns matchers are g =
    let (meant, readable, counted) = patterns_meant syntax options.ignore_case texts patterns are in
    record {
      es = map (meant_by options.ignore_case) patterns;
      meant = meant;
      same = rw (append-nil (expressions_of matchers)) at g.same;
      fewer = omega (arith, length-map matchers matched_expression);
      wholes = g.wholes;
      rooms = g.rooms;
      readable = readable;
    }
