-- What a list of one matcher says of the lines of a block.
use Rattle.{re_search.proofs.Prelude.{◌≡◌, false, List, [], ◌∷◌, length, map, get_or, ap, arith, Bool, sym, subst, All-head, Text, Matcher, matched_expression, wants_whole, Matches, AreAlike, SomeMatches, Sought, IsSought, sought_of, get_or_default, ◌↔◌, All}, re_syntax.proofs.lemmas.{Decisions.Any-first, SomeOfJoined.Any-single}}

-- a list of one
only_one : {A B : Type 0} (f : A → B) (xs : List A) (x : A) → length xs ≡ 1 → get_or xs 0 x ≡ x → map f xs ≡ f x ∷ []
only_one f [] x one is = absurd (omega (arith, one))
only_one f (y ∷ []) x one is = ap (λ z. f z ∷ []) is
only_one f (y ∷ z ∷ xs) x one is = absurd (omega (arith, one))

-- what one matcher searches for
pub alone : (ms : List Matcher) (d : Matcher) (asked : Bool) → length ms ≡ 1 → asked ≡ false →
    ◌≡◌ {A = Sought} (sought_of asked ms) (record { expressions = matched_expression (get_or ms 0 d) ∷ []; whole = false })
alone ms d asked one is =
    let m = get_or ms 0 d in
    λ i. record { expressions = only_one matched_expression ms m one (get_or_default ms 0 m d (omega (arith, one))) i; whole = is i }

-- the lines that are sought are those that it matches
pub sought_alone : (ms : List Matcher) (d : Matcher) (asked : Bool) → length ms ≡ 1 → AreAlike asked ms → (line : Text) →
    Matches (matched_expression (get_or ms 0 d)) line (wants_whole (get_or ms 0 d)) ↔ IsSought (sought_of asked ms) line
sought_alone ms d asked one all line =
    let m = get_or ms 0 d in
    let is : get_or ms 0 m ≡ m = get_or_default ms 0 m d (omega (arith, one)) in
    let es = only_one matched_expression ms m one is in
    let same : wants_whole m ≡ asked = All-head (λ w. w ≡ asked) (wants_whole m) [] (subst (All (λ w. w ≡ asked)) (only_one wants_whole ms m one is) all) in (
      λ h. subst (λ xs. SomeMatches xs line asked) (sym es) (Any-first (λ x. Matches x line asked) (matched_expression m) [] (subst (Matches (matched_expression m) line) same h)),
      λ h. subst (Matches (matched_expression m) line) (sym same) (Any-single (λ x. Matches x line asked) (matched_expression m) (subst (λ xs. SomeMatches xs line asked) es h)),
    )
