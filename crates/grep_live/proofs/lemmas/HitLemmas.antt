-- Lists of hits by their places: cut, moved and joined, and the hits of lines.
use Rattle.grep_live.proofs.Prelude.{◌≡◌, ℕ, zero, suc, ◌+◌, ◌-◌, ◌<◌, ◌≤◌, true, false, cond, List, [], ◌∷◌, ◌++◌, length, map, get_or, ◌⊎◌, refl, sym, ap, subst, ◌∙◌, inl, inr, arith, cases_lt, lt-ltb, le-ltb, le-leb, nat_tests, append-nil, filter-append, nat_le, nat_eq, filter, enumerate_from, IfHolds, EachGives, Text, Hit, AreWithin, hits_before, moved, hits_from, spliced_hits, hits_at}

-- ---- hits by their places

before_yes : (b : ℕ) (hit : Hit) (more : List Hit) → hit.place < b → hits_before b (hit ∷ more) ≡ hit ∷ hits_before b more
before_yes b hit more h = rw (lt-ltb hit.place b h)

before_no : (b : ℕ) (hit : Hit) (more : List Hit) → b ≤ hit.place → hits_before b (hit ∷ more) ≡ hits_before b more
before_no b hit more h = rw (le-ltb hit.place b h)

-- the hits from a place on, not moved
abbrev from_place : ℕ → List Hit → List Hit
from_place from hits = filter (λ hit. nat_le from hit.place) hits

from_yes : (b : ℕ) (hit : Hit) (more : List Hit) → b ≤ hit.place → from_place b (hit ∷ more) ≡ hit ∷ from_place b more
from_yes b hit more h = rw (le-leb b hit.place h)

lt-leb : (a b : ℕ) → b < a → nat_le a b ≡ false
lt-leb a b h = grind (arith, nat_tests)

from_no : (b : ℕ) (hit : Hit) (more : List Hit) → hit.place < b → from_place b (hit ∷ more) ≡ from_place b more
from_no b hit more h = rw (lt-leb b _ h)

-- ---- hits between two places

pub within_wider : (a b c d : ℕ) (hits : List Hit) → a ≤ b → c ≤ d → AreWithin b c hits → AreWithin a d hits
within_wider a b c d [] h k w = tt
within_wider a b c d (hit ∷ more) h k w = (omega (arith, w.0), omega (arith, w.1), within_wider (hit.place + 1) (hit.place + 1) c d more (omega arith) k w.2)

from_all : (a b c : ℕ) (hits : List Hit) → AreWithin a c hits → b ≤ a → from_place b hits ≡ hits
from_all a b c [] w h = refl
from_all a b c (hit ∷ more) w h = from_yes b hit more (omega (arith, w.0)) ∙ ap (λ l. hit ∷ l) (from_all (hit.place + 1) b c more w.2 (omega (arith, w.0)))

from_none : (a b c : ℕ) (hits : List Hit) → AreWithin a c hits → c ≤ b → from_place b hits ≡ []
from_none a b c [] w h = refl
from_none a b c (hit ∷ more) w h = from_no b _ _ (omega (arith, w.1)) ∙ from_none (hit.place + 1) b c more w.2 h

-- joined, the ones after the others
within_joined : (a b c : ℕ) (xs ys : List Hit) → AreWithin a b xs → AreWithin b c ys → a ≤ b → b ≤ c → AreWithin a c (xs ++ ys)
within_joined a b c [] ys w v l m = within_wider a b c c ys l (omega arith) v
within_joined a b c (hit ∷ more) ys w v l m = (w.0, omega (arith, w.1), within_joined (hit.place + 1) b c more ys w.2 v (omega (arith, w.1)) m)

-- the hits before a place, in order
before_within : (a b c : ℕ) (hits : List Hit) → AreWithin a c hits → AreWithin a b (hits_before b hits)
before_within a b c [] w = tt
before_within a b c (hit ∷ more) w = by_place (before_within (hit.place + 1) b c more w.2) (cases_lt hit.place b)
  where
    by_place : AreWithin (hit.place + 1) b (hits_before b more) → (hit.place < b) ⊎ (b ≤ hit.place) → AreWithin a b (hits_before b (hit ∷ more))
    by_place rest (inl h) = rw (before_yes b hit more h) (w.0, h, rest)
    by_place rest (inr h) = rw (before_no b hit more h) (within_wider a (hit.place + 1) b b (hits_before b more) (omega (arith, w.0)) (omega arith) rest)

-- the hits from a place on, in order
from_within : (a b c : ℕ) (hits : List Hit) → AreWithin a c hits → AreWithin b c (from_place b hits)
from_within a b c [] w = tt
from_within a b c (hit ∷ more) w = by_place (from_within (hit.place + 1) b c more w.2) (cases_lt hit.place b)
  where
    by_place : AreWithin b c (from_place b more) → (hit.place < b) ⊎ (b ≤ hit.place) → AreWithin b c (from_place b (hit ∷ more))
    by_place rest (inl h) = rw (from_no b hit more h) rest
    by_place rest (inr h) =
        let all : from_place b more ≡ more = from_all (hit.place + 1) b c more w.2 (omega arith) in
        rw (from_yes b hit more h ∙ ap (λ l. hit ∷ l) all) (h, w.1, w.2)

-- moved, in order
moved_within : (g t a c : ℕ) (hits : List Hit) → g ≤ a → AreWithin a c hits → AreWithin (t + (a - g)) (t + (c - g)) (map (moved g t) hits)
moved_within g t a c [] l w = tt
moved_within g t a c (hit ∷ more) l w =
    let next : t + ((hit.place + 1) - g) ≡ (t + (hit.place - g)) + 1 = omega (arith, w.0) in
    (omega (arith, w.0), omega (arith, w.0, w.1), rw next at (moved_within g t (hit.place + 1) c more (omega (arith, w.0)) w.2))

-- the hits from a place on, where the line there moves, in order
from_moved_within : (g t a c : ℕ) (hits : List Hit) → AreWithin a c hits → AreWithin t (t + (c - g)) (hits_from g t hits)
from_moved_within g t a c hits w =
    let same : t + (g - g) ≡ t = omega arith in
    rw same at (moved_within g t g c _ (omega arith) (from_within a g c hits w))

-- ---- the hits at a place

-- two places
three_ways : (a b : ℕ) → (a ≡ b) ⊎ ((a < b) ⊎ (b < a))
three_ways a b = by_low (cases_lt a b) (cases_lt b a)
  where
    by_low : (a < b) ⊎ (b ≤ a) → (b < a) ⊎ (a ≤ b) → (a ≡ b) ⊎ ((a < b) ⊎ (b < a))
    by_low (inl h) q = inr (inl h)
    by_low (inr h) (inl q) = inr (inr q)
    by_low (inr h) (inr q) = inl (omega arith)

same_place : (a b : ℕ) → a ≡ b → nat_eq a b ≡ true
same_place a b h = grind (arith, nat_tests)

other_place : (a b : ℕ) → (a < b) ⊎ (b < a) → nat_eq a b ≡ false
other_place a b (inl h) = grind (arith, nat_tests)
other_place a b (inr h) = grind (arith, nat_tests)

at_yes : (p : ℕ) (hit : Hit) (more : List Hit) → hit.place ≡ p → hits_at p (hit ∷ more) ≡ hit ∷ hits_at p more
at_yes p hit more h = rw (same_place _ p h)

at_no : (p : ℕ) (hit : Hit) (more : List Hit) → (hit.place < p) ⊎ (p < hit.place) → hits_at p (hit ∷ more) ≡ hits_at p more
at_no p hit more h = rw (other_place _ p h)

-- there are none before the first
pub at_low : (p a c : ℕ) (hits : List Hit) → AreWithin a c hits → p < a → hits_at p hits ≡ []
at_low p a c [] w h = refl
at_low p a c (hit ∷ more) w h = at_no p _ _ (inr (omega (arith, w.0))) ∙ at_low p (hit.place + 1) c more w.2 (omega (arith, w.0))

-- there are none after the last
pub at_high : (p a c : ℕ) (hits : List Hit) → AreWithin a c hits → c ≤ p → hits_at p hits ≡ []
at_high p a c [] w h = refl
at_high p a c (hit ∷ more) w h = at_no p _ _ (inl (omega (arith, w.1))) ∙ at_high p (hit.place + 1) c more w.2 h

at_before : (p f : ℕ) (hits : List Hit) → p < f → hits_at p (hits_before f hits) ≡ hits_at p hits
at_before p f [] h = refl
at_before p f (hit ∷ more) h = by_place (at_before p f more h) (cases_lt hit.place f)
  where
    by_place : hits_at p (hits_before f more) ≡ hits_at p more → (hit.place < f) ⊎ (f ≤ hit.place) → hits_at p (hits_before f (hit ∷ more)) ≡ hits_at p (hit ∷ more)
    by_place rest (inl q) = ap (hits_at p) (before_yes f hit more q) ∙ ap (λ l. cond (nat_eq hit.place p) (hit ∷ l) l) rest
    by_place rest (inr q) = ap (hits_at p) (before_no f hit more q) ∙ rest ∙ sym (at_no p hit more (inr (omega arith)))

at_from_place : (p b : ℕ) (hits : List Hit) → b ≤ p → hits_at p (from_place b hits) ≡ hits_at p hits
at_from_place p b [] h = refl
at_from_place p b (hit ∷ more) h = by_place (at_from_place p b more h) (cases_lt hit.place b)
  where
    by_place : hits_at p (from_place b more) ≡ hits_at p more → (hit.place < b) ⊎ (b ≤ hit.place) → hits_at p (from_place b (hit ∷ more)) ≡ hits_at p (hit ∷ more)
    by_place rest (inl q) = ap (hits_at p) (from_no b hit more q) ∙ rest ∙ sym (at_no p hit more (inl (omega arith)))
    by_place rest (inr q) = ap (hits_at p) (from_yes b hit more q) ∙ ap (λ l. cond (nat_eq hit.place p) (hit ∷ l) l) rest

at_moved_from : (g t x : ℕ) (hits : List Hit) → hits_at (t + x) (hits_from g t hits) ≡ map (moved g t) (hits_at (g + x) hits)
at_moved_from g t x [] = refl
at_moved_from g t x (hit ∷ more) = by_place (at_moved_from g t x more) (cases_lt hit.place g)
  where
    by_way : hits_at (t + x) (hits_from g t more) ≡ map (moved g t) (hits_at (g + x) more) → g ≤ hit.place → (hit.place ≡ g + x) ⊎ ((hit.place < g + x) ⊎ (g + x < hit.place)) →
        hits_at (t + x) (moved g t hit ∷ hits_from g t more) ≡ map (moved g t) (hits_at (g + x) (hit ∷ more))
    by_way rest q (inl e) = at_yes (t + x) (moved g t hit) (hits_from g t more) (omega arith) ∙ ap (λ l. moved g t hit ∷ l) rest ∙ ap (map (moved g t)) (sym (at_yes (g + x) hit more e))
    by_way rest q (inr (inl e)) = at_no (t + x) (moved g t hit) (hits_from g t more) (inl (omega arith)) ∙ rest ∙ ap (map (moved g t)) (sym (at_no (g + x) hit more (inl e)))
    by_way rest q (inr (inr e)) = at_no (t + x) (moved g t hit) (hits_from g t more) (inr (omega arith)) ∙ rest ∙ ap (map (moved g t)) (sym (at_no (g + x) hit more (inr e)))

    by_place : hits_at (t + x) (hits_from g t more) ≡ map (moved g t) (hits_at (g + x) more) → (hit.place < g) ⊎ (g ≤ hit.place) → hits_at (t + x) (hits_from g t (hit ∷ more)) ≡ map (moved g t) (hits_at (g + x) (hit ∷ more))
    by_place rest (inl q) = ap (λ l. hits_at (t + x) (map (moved g t) l)) (from_no g hit more q) ∙ rest ∙ ap (map (moved g t)) (sym (at_no (g + x) hit more (inl (omega arith))))
    by_place rest (inr q) = ap (λ l. hits_at (t + x) (map (moved g t) l)) (from_yes g hit more q) ∙ by_way rest q (three_ways hit.place (g + x))

-- the hits at a place, and those after it
at_and_after : (n c : ℕ) (hits : List Hit) → AreWithin n c hits → hits_at n hits ++ from_place (n + 1) hits ≡ hits
at_and_after n c [] w = refl
at_and_after n c (hit ∷ more) w = by_place (three_ways hit.place n)
  where
    none : hits_at n more ≡ []
    none = at_low n (hit.place + 1) c more w.2 (omega (arith, w.0))

    by_place : (hit.place ≡ n) ⊎ ((hit.place < n) ⊎ (n < hit.place)) → hits_at n (hit ∷ more) ++ from_place (n + 1) (hit ∷ more) ≡ hit ∷ more
    by_place (inl e) =
        let here : hits_at n (hit ∷ more) ≡ hit ∷ [] = at_yes n hit more e ∙ ap (λ l. hit ∷ l) none in
        let after : from_place (n + 1) (hit ∷ more) ≡ more = from_no (n + 1) hit more (omega (arith, e)) ∙ from_all (hit.place + 1) (n + 1) c more w.2 (omega (arith, e)) in
        λ i. here i ++ after i
    by_place (inr (inl e)) =
        let never : ⊥ = omega (arith, e, w.0) in
        absurd never
    by_place (inr (inr e)) =
        let here : hits_at n (hit ∷ more) ≡ [] = at_no n hit more (inr e) ∙ none in
        let after : from_place (n + 1) (hit ∷ more) ≡ hit ∷ more = from_yes (n + 1) hit more (omega (arith, e)) ∙ ap (λ l. hit ∷ l) (from_all (hit.place + 1) (n + 1) c more w.2 (omega (arith, e))) in
        λ i. here i ++ after i

-- where there is no other place, they are all at it
at_all : (n : ℕ) (hits : List Hit) → AreWithin n (n + 1) hits → hits_at n hits ≡ hits
at_all n hits w = sym (append-nil (hits_at n hits)) ∙ ap (λ l. hits_at n hits ++ l) (sym (from_none n (n + 1) (n + 1) hits w (omega arith))) ∙ at_and_after n (n + 1) hits w

-- ---- hits that move

-- moved once and again
pub moved_again : (a b c : ℕ) (hits : List Hit) → map (moved b c) (map (moved a b) hits) ≡ map (moved a c) hits
moved_again a b c [] = refl
moved_again a b c (hit ∷ more) =
    let same : c + ((b + (hit.place - a)) - b) ≡ c + (hit.place - a) = omega arith in
    let rest = moved_again a b c more in
    λ i. record hit { place = same i } ∷ rest i

-- the hits at a place, moved once and again
at_moved : (p f t b q : ℕ) (hits : List Hit) → t + (p - f) ≡ b → map (moved b q) (map (moved f t) (hits_at p hits)) ≡ map (moved p q) (hits_at p hits)
at_moved p f t b q [] e = refl
at_moved p f t b q (hit ∷ more) e = by_place (at_moved p f t b q more e) (three_ways hit.place p)
  where
    by_place : map (moved b q) (map (moved f t) (hits_at p more)) ≡ map (moved p q) (hits_at p more) → (hit.place ≡ p) ⊎ ((hit.place < p) ⊎ (p < hit.place)) →
        map (moved b q) (map (moved f t) (hits_at p (hit ∷ more))) ≡ map (moved p q) (hits_at p (hit ∷ more))
    by_place rest (inl h) =
        let same : q + ((t + (hit.place - f)) - b) ≡ q + (hit.place - p) = omega arith in
        ap (λ l. map (moved b q) (map (moved f t) l)) (at_yes p hit more h) ∙ (λ i. record hit { place = same i } ∷ rest i) ∙ ap (map (moved p q)) (sym (at_yes p hit more h))
    by_place rest (inr h) = ap (λ l. map (moved b q) (map (moved f t) l)) (at_no p hit more h) ∙ rest ∙ ap (map (moved p q)) (sym (at_no p hit more h))

-- the hits at a place that stays
pub at_same : (p : ℕ) (hits : List Hit) → map (moved p p) (hits_at p hits) ≡ hits_at p hits
at_same p [] = refl
at_same p (hit ∷ more) = by_place (at_same p more) (three_ways hit.place p)
  where
    by_place : map (moved p p) (hits_at p more) ≡ hits_at p more → (hit.place ≡ p) ⊎ ((hit.place < p) ⊎ (p < hit.place)) → map (moved p p) (hits_at p (hit ∷ more)) ≡ hits_at p (hit ∷ more)
    by_place rest (inl h) =
        let same : p + (hit.place - p) ≡ hit.place = omega arith in
        ap (map (moved p p)) (at_yes p hit more h) ∙ (λ i. record hit { place = same i } ∷ rest i) ∙ sym (at_yes p hit more h)
    by_place rest (inr h) = ap (map (moved p p)) (at_no p hit more h) ∙ rest ∙ sym (at_no p hit more h)

-- ---- lines that were replaced

module _ (f r a many : ℕ) (come hits : List Hit) (within : AreWithin 0 many hits) (between : AreWithin f (f + a) come) where
  -- the hits are in order
  pub spliced_within : f + r ≤ many → AreWithin 0 (many - r + a) (spliced_hits f r a come hits)
  spliced_within l =
      let far : (f + a) + (many - (f + r)) ≡ many - r + a = omega arith in
      let last : AreWithin (f + a) (many - r + a) (hits_from (f + r) (f + a) hits) = rw far at (from_moved_within (f + r) (f + a) 0 many hits within) in
      within_joined 0 f (many - r + a) (hits_before f hits) (come ++ hits_from (f + r) (f + a) hits) (before_within 0 f many hits within)
      (within_joined f (f + a) (many - r + a) come (hits_from (f + r) (f + a) hits) between last (omega arith) (omega arith)) (omega arith) (omega arith)

  cut_at : (p : ℕ) → hits_at p (spliced_hits f r a come hits) ≡ hits_at p (hits_before f hits) ++ (hits_at p come ++ hits_at p (hits_from (f + r) (f + a) hits))
  cut_at p =
      let test = λ (hit : Hit). nat_eq hit.place p in
      filter-append test (hits_before f hits) (come ++ hits_from (f + r) (f + a) hits) ∙ ap (λ l. hits_at p (hits_before f hits) ++ l) (filter-append test come (hits_from (f + r) (f + a) hits))

  none_first : (p : ℕ) → f ≤ p → hits_at p (hits_before f hits) ≡ []
  none_first p l = at_high p 0 f _ (before_within 0 f _ _ within) l

  none_last : (p : ℕ) → p < f + a → hits_at p (hits_from (f + r) (f + a) hits) ≡ []
  none_last p l = at_low p _ _ _ (from_moved_within _ _ 0 _ _ within) l

  -- at a place before the lines
  pub spliced_before : (p : ℕ) → p < f → hits_at p (spliced_hits f r a come hits) ≡ hits_at p hits
  spliced_before p l =
      let first = at_before p f hits l in
      let mid = at_low p f (f + a) come between l in
      let last = none_last p (omega arith) in
      cut_at p ∙ (λ i. first i ++ (mid i ++ last i)) ∙ append-nil (hits_at p hits)

  -- at one of the lines
  pub spliced_among : (p : ℕ) → f ≤ p → p < f + a → hits_at p (spliced_hits f r a come hits) ≡ hits_at p come
  spliced_among p l h =
      let first = none_first p l in
      let last = none_last p h in
      cut_at p ∙ (λ i. first i ++ (hits_at p come ++ last i)) ∙ append-nil (hits_at p come)

  -- at a place after them, with the line there
  pub spliced_after : (p old q : ℕ) → f + a ≤ p → old + (f + a) ≡ p + (f + r) → map (moved p q) (hits_at p (spliced_hits f r a come hits)) ≡ map (moved old q) (hits_at old hits)
  spliced_after p old q l e =
      let x = p - (f + a) in
      let there : (f + a) + x ≡ p = omega arith in
      let was : (f + r) + x ≡ old = omega arith in
      let first = none_first p (omega arith) in
      let mid = at_high p f (f + a) come between l in
      let last =
      ap (λ n. hits_at n (hits_from (f + r) (f + a) hits)) (sym there) ∙ at_moved_from (f + r) (f + a) x hits ∙ ap (λ n. map (moved (f + r) (f + a)) (hits_at n hits)) was in
      let is = cut_at p ∙ (λ i. first i ++ (mid i ++ last i)) in
      ap (map (moved p q)) is ∙ at_moved old (f + r) (f + a) p q hits (omega arith)

-- ---- the hits of lines: S says which lines are selected, and P which parts are listed of one

module _ (S : Text → Type 0) (P : Text → List (ℕ × ℕ) → Type 0) where
  abbrev pub HitBy : ℕ × Text → List Hit → Type 0
  HitBy line hits = IfHolds (S line.1) ((parts : List (ℕ × ℕ)) × P line.1 parts × (hits ≡ record { place = line.0; text = line.1; parts = parts } ∷ [])) (hits ≡ [])

  -- the hits of lines, the first of which has this place
  abbrev pub By : ℕ → List Text → List Hit → Type 0
  By first lines hits = EachGives HitBy (enumerate_from first lines) hits

  -- they come in the order of their places
  pub by_within : (n : ℕ) (lines : List Text) (hits : List Hit) → By n lines hits → AreWithin n (n + length lines) hits
  by_within n [] hits h = rw h tt
  by_within n (line ∷ lines) hits (front, rest, first, more, joined) =
      by_first (by_within (n + 1) lines rest more) first
    where
      wide : AreWithin (n + 1) ((n + 1) + length lines) rest → AreWithin (n + 1) (n + suc (length lines)) rest
      wide w = within_wider (n + 1) (n + 1) ((n + 1) + length lines) (n + suc (length lines)) rest (omega arith) (omega arith) w

      by_first : AreWithin (n + 1) ((n + 1) + length lines) rest → HitBy (n, line) front → AreWithin n (n + suc (length lines)) hits
      by_first w (inl (selected, (parts, known, is))) =
          rw (joined ∙ ap (λ l. l ++ rest) is) (omega arith, omega arith, wide w)
      by_first w (inr (passed, is)) =
          rw (joined ∙ ap (λ l. l ++ rest) is)
          (within_wider n _ _ _ _ (omega arith) (omega arith) (wide w))

  -- those of one line
  one_within : (n : ℕ) (line : Text) (hits : List Hit) → HitBy (n, line) hits → AreWithin n (n + 1) hits
  one_within n line hits (inl (selected, (parts, known, is))) = rw is (omega arith, omega arith, tt)
  one_within n line hits (inr (passed, is)) = rw is tt

  -- line by line: at each place there are the hits of its line
  pub line_hits : (n : ℕ) (lines : List Text) (hits : List Hit) → By n lines hits → (i p : ℕ) → p ≡ n + i → i < length lines → HitBy (p, get_or lines i []) (hits_at p hits)
  line_hits n [] hits h i p e l = absurd (omega (arith, l))
  line_hits n (line ∷ lines) hits (front, rest, first, more, joined) zero p e l =
      let here : n ≡ p = omega (arith, e) in
      let none : hits_at n rest ≡ [] = at_low n (n + 1) ((n + 1) + length lines) rest (by_within (n + 1) lines rest more) (omega arith) in
      let all : hits_at n front ≡ front = at_all n front (one_within n line front first) in
      let is : hits_at n hits ≡ front = ap (hits_at n) joined ∙ filter-append (λ hit. nat_eq hit.place n) front rest ∙ (λ j. all j ++ none j) ∙ append-nil front in
      subst (λ (m : ℕ). HitBy (m, line) (hits_at m hits)) here (subst (HitBy (n, line)) (sym is) first)
  line_hits n (line ∷ lines) hits (front, rest, first, more, joined) (suc i) p e l =
      let none : hits_at p front ≡ [] = at_high p n (n + 1) front (one_within n line front first) (omega (arith, e)) in
      let is : hits_at p hits ≡ hits_at p rest = ap (hits_at p) joined ∙ filter-append (λ hit. nat_eq hit.place p) front rest ∙ ap (λ x. x ++ hits_at p rest) none in
      subst (HitBy (p, get_or lines i [])) (sym is) (line_hits (n + 1) lines rest more i p (omega (arith, e)) (omega (arith, l)))

  pub hits_by_line : (n : ℕ) (lines : List Text) (hits : List Hit) → AreWithin n (n + length lines) hits → ((i p : ℕ) → p ≡ n + i → i < length lines → HitBy (p, get_or lines i []) (hits_at p hits)) → By n lines hits
  hits_by_line n [] [] w f = refl
  hits_by_line n [] (hit ∷ more) w f = absurd (omega (arith, w.0, w.1))
  hits_by_line n (line ∷ lines) hits w f =
      let rest = from_place (n + 1) hits in
      let far : n + suc (length lines) ≡ (n + 1) + length lines = omega arith in
      let later : AreWithin (n + 1) ((n + 1) + length lines) rest = rw far at (from_within n (n + 1) (n + suc (length lines)) hits w) in (
        hits_at n hits,
        rest,
        f 0 n (omega arith) (omega arith),
        hits_by_line (n + 1) lines rest later (λ i p e l. rw (at_from_place p (n + 1) hits (omega arith)) (f (suc i) p (omega arith) (omega arith))),
        sym (at_and_after n (n + suc (length lines)) hits w),
      )

  -- a hit of one line, moved with it
  pub one_moved : (n a b m : ℕ) (line : Text) (hits : List Hit) → m ≡ b + (n - a) → HitBy (n, line) hits → HitBy (m, line) (map (moved a b) hits)
  one_moved n a b m line hits e (inl (selected, (parts, known, is))) =
      inl (selected, (parts, known, ap (map (moved a b)) is ∙ (λ i. record { place = sym e i; text = line; parts = parts } ∷ [])))
  one_moved n a b m line hits e (inr (passed, is)) = inr (passed, ap (map (moved a b)) is)
