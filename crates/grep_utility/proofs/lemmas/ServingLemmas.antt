-- One matcher for strings serves for the patterns that are these.
use Rattle.{grep_utility.proofs.Prelude.{◌≡◌, ◌≤◌, inl, inr, Bool, true, false, All, Any, List, [], ◌∷◌, ◌++◌, length, map, refl, sym, ap, ◌∙◌, arith, map-append, length-map, All-nil, All-cons, All-push, AllZip, Syntax, Text, Expression, alt, choice, Holds, folded, IsMeant, literal_meaning, AddsStrings, string_expression, IsReadable, Matcher, matched_expression, room_of, wants_whole, Options, IsSameChoice, Pattern, meaning, meant_by, pattern_expression, IsCounted, ArePatterns, AreGrouped, AreReadAs, IsJoined, most_kept, AreStrings, IsPattern, HasNoNewline, terminated, All-append, append_assoc}, re_syntax.proofs.lemmas.{SomeOfJoined.{Any-left, Any-right, Any-append-cases}, LinesLaws.terminated-append}, re_search.proofs.lemmas.ReadingLaws.read_meant, grep_core.proofs.lemmas.{MatcherLemmas.AllZip-append, SameChoice.{alt-is_same, other_way}}}

-- ---- what one pattern means

-- the branches of a choice are folded one by one
folded_choice : (es : List Expression) → folded (choice es) ≡ choice (map folded es)
folded_choice [] = refl
folded_choice (e ∷ []) = refl
folded_choice (e ∷ f ∷ es) = folded_alt (e ∷ f ∷ es)
  where
    folded_alt : (es : List Expression) → folded (alt es) ≡ alt (map folded es)
    folded_alt [] = refl
    folded_alt (e ∷ es) = rw (folded_alt es)

-- what a choice of strings means is a choice of what they mean
meant_choice : (fold : Bool) (strings : List Text) → meaning fold (choice (map string_expression strings)) ≡ choice (map (literal_meaning fold) strings)
meant_choice false strings = refl
meant_choice true strings = cc (folded_choice (map string_expression strings), each strings)
  where
    each : (strings : List Text) → map folded (map string_expression strings) ≡ map (literal_meaning true) strings
    each [] = refl
    each (t ∷ ts) = rw (each ts)

-- a choice is the same as its branches
choice_same : (es : List Expression) → 1 ≤ length es → IsSameChoice es (choice es ∷ [])
choice_same [] some = absurd (omega arith)
choice_same (e ∷ []) some = λ line i j. (λ a. a, λ a. a)
choice_same (e ∷ f ∷ es) some = other_way (alt (e ∷ f ∷ es) ∷ []) (e ∷ f ∷ es) (alt-is_same (e ∷ f ∷ es))

pub same_trans : (us bs cs : List Expression) → IsSameChoice us bs → IsSameChoice bs cs → IsSameChoice us cs
same_trans us bs cs p q line i j = (λ a. (q line i j).0 ((p line i j).0 a), λ a. (p line i j).1 ((q line i j).1 a))

either : {A : Type 0} (P : A → Type 0) (us bs cs ds : List A) → (Any P us → Any P bs) → (Any P cs → Any P ds) → Any P (us ++ cs) → Any P (bs ++ ds)
either P us bs cs ds f g a = elim (Any-append-cases P us cs a) [ inl h ↦ Any-left P bs ds (f h) | inr h ↦ Any-right P bs ds (g h) ]

-- two choices, one after the other
pub same_append : (us bs cs ds : List Expression) → IsSameChoice us bs → IsSameChoice cs ds → IsSameChoice (us ++ cs) (bs ++ ds)
same_append us bs cs ds p q line i j =
    let P : Expression → Type 0 = λ e. Holds line e i j in
    (either P us bs cs ds (p line i j).0 (q line i j).0, either P bs us ds cs (p line i j).1 (q line i j).1)

-- more expressions after others of the same choice
pub more_choices : (ds es fs : List Expression) (m : Expression) → IsSameChoice ds es → 1 ≤ length fs → m ≡ choice fs → IsSameChoice (ds ++ fs) (es ++ m ∷ [])
more_choices ds es fs m same some is = same_append ds es fs (m ∷ []) same (rw is (choice_same fs some))

-- ---- patterns

-- what they mean, and that each is readable and counted
pub patterns_meant : (syntax : Syntax) (fold : Bool) (texts : List Text) (patterns : List Pattern) → ArePatterns syntax fold texts patterns →
    AllZip (λ t e. IsMeant syntax fold t e) texts (map (meant_by fold) patterns) × All (IsReadable syntax fold) texts × All (IsCounted fold) patterns
patterns_meant syntax fold [] [] are = (tt, All-nil (IsReadable syntax fold), All-nil (IsCounted fold))
patterns_meant syntax fold [] (p ∷ ps) are = absurd are
patterns_meant syntax fold (t ∷ ts) [] are = absurd are
patterns_meant syntax fold (t ∷ ts) (p ∷ ps) are =
    let (meant, readable, counted) = patterns_meant syntax fold ts ps are.1 in
    let (means, small) = read_meant syntax fold t p (meant_by fold p) are.0 refl in
    ((means, meant), All-cons (IsReadable syntax fold) t ts (meant_by fold p, means, small) readable, All-cons (IsCounted fold) p ps are.0.counted counted)

-- one pattern more is strings
pub next_read : (fold : Bool) (done : List Pattern) (strings : List Text) (p : Pattern) (old new : Text) → AreReadAs fold done strings → (adds : AddsStrings (pattern_expression p) old new) → AreReadAs fold (done ++ p ∷ []) (strings ++ adds.each.strings)
next_read fold done strings p old new read adds =
    let added = adds.each.strings in
    let is : meant_by fold p ≡ choice (map (literal_meaning fold) added) = cc (adds.is ∙ ap choice adds.each.are, meant_choice fold added) in
    rw (map-append (meant_by fold) done (p ∷ []))
    (rw (map-append (literal_meaning fold) strings added)
    (more_choices (map (literal_meaning fold) strings) (map (meant_by fold) done) (map (literal_meaning fold) added) _ read (omega (arith, ap length adds.each.are, length-map added string_expression, length-map added (literal_meaning fold))) is))

-- some texts are read as the strings so far, and the others are left
abbrev pub StringsSoFar : Syntax → Bool → List Text → List Text → Text → Type 0
StringsSoFar syntax fold left all bytes =
    (done : List Text) × (done ++ left ≡ all) × (strings : List Text) × (bytes ≡ terminated strings) × All HasNoNewline strings × AreStrings syntax fold done strings

pub next_string : (syntax : Syntax) (fold : Bool) (text : Text) (left all : List Text) (p : Pattern) (old new : Text) → StringsSoFar syntax fold (text ∷ left) all old → IsPattern syntax fold text p → AddsStrings (pattern_expression p) old new → StringsSoFar syntax fold left all new
next_string syntax fold text left all p old new (done, is, strings, are, lines, (patterns, texts, meant)) read adds =
    let added = adds.each.strings in (
      done ++ text ∷ [],
      append_assoc done (text ∷ []) left ∙ is,
      strings ++ added,
      adds.each.added ∙ ap (λ l. l ++ terminated added) are ∙ sym (terminated-append strings added),
      All-append HasNoNewline strings added lines adds.each.lines,
      (patterns ++ p ∷ [], AllZip-append (IsPattern syntax fold) done (text ∷ []) patterns (p ∷ []) texts (read, tt), next_read fold patterns strings p _ _ meant adds),
    )

-- one matcher for all strings serves for them
pub joined_grouped : (options : Options) (patterns : List Pattern) (strings : List Text) (matchers : List Matcher) → AreReadAs options.ignore_case patterns strings → 1 ≤ length patterns
    → IsJoined options strings matchers → AreGrouped options.line_regexp (map (meant_by options.ignore_case) patterns) matchers []
joined_grouped options patterns strings matchers read some joined =
    let meanings = map (literal_meaning options.ignore_case) strings in
    let choice : IsSameChoice (matched_expression joined.one ∷ []) meanings = rw joined.expression (alt-is_same meanings) in
    rw joined.alone (record {
      same = same_trans (matched_expression joined.one ∷ []) meanings (map (meant_by options.ignore_case) patterns) choice read;
      fewer = omega (arith, length-map patterns (meant_by options.ignore_case));
      wholes = All-push (λ w. w ≡ options.line_regexp) [] (wants_whole joined.one) (λ i d h. absurd (omega arith)) joined.whole;
      rooms = All-push (λ n. n ≤ most_kept) [] (room_of joined.one) (λ i d h. absurd (omega arith)) (omega arith);
    })
