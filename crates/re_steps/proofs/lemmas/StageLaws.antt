-- What a search that went over a line stage by stage says, and how many steps it counted.
use Rattle.{re_steps.proofs.{Prelude.{◌≡◌, ℕ, zero, suc, ◌+◌, ◌-◌, ◌<◌, ◌≤◌, Bool, true, false, IsTrue, ◌⊎◌, inl, inr, [], length, slice_index, refl, sym, ap, ◌∙◌, arith, eq-eqb, ◌↔◌, Text, Expression, Matches, Mode, Search, Whole, StateSet, Steps, many_built, part_of, is_end, IsSame, IsNowhere, IsNextSet, IsAccepting, StandsAt, CanBegin, AddsUpTo, EndsAt, NoneEndsBefore, Cache, Stage, AreAlike, IsHeld, IsPlain, GoesOver, Goes, Finishes, Searches, IsReadied, mode_for, false≢true, slice_get-get_or}, lemmas.Passing.{none_at_first, matched_at, end_decides, whole_decides, nowhere_fails}}, re_meter.proofs.lemmas.Adding.{adds_none, adds_within, adds_both, reused_adds, built_adds}, re_auto.proofs.lemmas.{Chains.not_at_end, SetsByWords.{stands_next, matched_by, nowhere_stays}}}

-- sets that are the same
pub same_sym : (one other : StateSet) → IsSame one other → IsSame other one
same_sym one other is = (sym is.0, sym is.1)

pub same_trans : (one two three : StateSet) → IsSame one two → IsSame two three → IsSame one three
same_trans one two three a b = (a.0 ∙ b.0, a.1 ∙ b.1)

pub stands_same : (e : Expression) (mode : Mode) (line : Text) (j : ℕ) (set same : StateSet) → IsSame same set → StandsAt e mode line j set → StandsAt e mode line j same
unfolding StandsAt
stands_same e mode line j set same is stands = (is.1 ∙ stands.0, rw is.0 stands.1)

pub next_same : (e : Expression) (mode : Mode) (from into same : StateSet) (c : ℕ) → IsSame same into → IsNextSet e mode from c into → IsNextSet e mode from c same
unfolding IsNextSet
next_same e mode from into same c is next = (is.1 ∙ next.0, rw is.0 next.1)

-- stages that are alike
pub alike_trans : (one two three : Stage) → AreAlike one two → AreAlike two three → AreAlike one three
alike_trans one two three a b = record { set = same_trans one.set two.set three.set a.set b.set; cache = a.cache ∙ b.cache; steps = a.steps ∙ b.steps }

pub alike_self : (stage : Stage) → AreAlike stage stage
alike_self stage = record { set = (refl, refl); cache = refl; steps = refl }

over_alike : (e : Expression) (mode : Mode) (c : ℕ) (old new other : Stage) → AreAlike other new → GoesOver e mode c old new → GoesOver e mode c old other
over_alike e mode c old new other is over = record {
  plain = over.plain;
  over = elim over.over [
    | inl r ↦ inl (record { held = r.held; next = next_same e mode old.set new.set other.set c is.set r.next; cache = is.cache ∙ r.cache; steps = is.steps ∙ r.steps })
    | inr rest ↦ inr (elim rest [
      | inl b ↦ inl (record {
        not_held = b.not_held;
        next = next_same e mode old.set new.set other.set c is.set b.next;
        cache = rw is.cache b.cache;
        steps = is.steps ∙ b.steps;
      })
      | inr p ↦ inr (record {
        search = p.search;
        nowhere = p.nowhere;
        never = p.never;
        set = same_trans other.set new.set old.set is.set p.set;
        cache = is.cache ∙ p.cache;
        steps = is.steps ∙ p.steps;
      })
    ])
  ];
}

-- the steps after n more that were built
abbrev stepped : ℕ → Steps → Steps
stepped zero steps = steps
stepped (suc n) steps = many_built (suc n) steps

stepped_more : (n : ℕ) (steps : Steps) → many_built 1 (stepped n steps) ≡ stepped (suc n) steps
stepped_more zero steps = refl
stepped_more (suc n) steps = ap (λ k. record { built = k; reused = steps.reused; passed = steps.passed }) (omega arith)

stepped_is : (n : ℕ) (old new : Steps) → (0 < n → new ≡ many_built n old) → (n ≡ 0 → new ≡ old) → new ≡ stepped n old
stepped_is zero old new counted none = none refl
stepped_is (suc n) old new counted none = counted (omega arith)

-- a cache without entries holds nothing
pub nothing_held : (cache : Cache) (set : StateSet) (c : ℕ) → cache.entries ≡ [] → ¬ IsHeld cache set c
nothing_held cache set c none h = false≢true (rw none at h.held)

module _ (e : Expression) (mode : Mode) (line : Text) where
  pub goes_alike : (j : ℕ) (first last other : Stage) → AreAlike other last → Goes e mode line j first last → Goes e mode line j first other
  unfolding Goes
  goes_alike zero first last other is goes = alike_trans other last first is goes
  goes_alike (suc j) first last other is (middle, goes, over) = (middle, goes, over_alike e mode (slice_index line j) middle last other is over)

  -- nothing was gone over
  pub goes_nowhere : (stage : Stage) → Goes e mode line 0 stage stage
  unfolding Goes
  goes_nowhere stage = alike_self _

  -- one byte more is gone over
  pub goes_on : (j : ℕ) (first middle last : Stage) → Goes e mode line j first middle → GoesOver e mode (slice_index line j) middle last → Goes e mode line (suc j) first last
  unfolding Goes
  goes_on j first middle last goes over = (middle, goes, over)

  -- one byte more, with a cache that holds nothing
  pub goes_built : (j : ℕ) (first : Stage) (cache : Cache) (set next : StateSet) (before after : Steps) → cache.entries ≡ [] → IsPlain e mode set → IsNextSet e mode set (slice_index line j) next
      → after ≡ many_built 1 before → Goes e mode line j first (record { set = set; cache = cache; steps = before }) → Goes e mode line (suc j) first (record { set = next; cache = cache; steps = after })
  goes_built j first cache set next before after none plain is counted goes =
      goes_on j _ _ _ goes
      (record { plain = plain; over = inr (inl (record { not_held = nothing_held _ _ _ none; next = is; cache = λ other b small held. inl held; steps = counted })) })

  over_stands : (j : ℕ) (old new : Stage) → j < length line → GoesOver e mode (slice_index line j) old new → StandsAt e mode line j old.set → StandsAt e mode line (suc j) new.set
  over_stands j old new lt over stands = elim over.over [
    | inl r ↦ stands_next e mode old.set new.set (slice_index line j) r.next line j (slice_get-get_or line j 0 lt) stands
    | inr rest ↦ elim rest [
      | inl b ↦ stands_next e mode old.set new.set (slice_index line j) b.next line j (slice_get-get_or line j 0 lt) stands
      | inr p ↦ stands_same e mode line (suc j) old.set new.set p.set
          (rw p.search
          (nowhere_stays e (slice_index line j) p.never old.set line j p.nowhere (slice_get-get_or line j 0 lt) (rw p.search at stands)))
    ]
  ]

  -- the set of each stage is right at its place
  pub goes_stands : (j : ℕ) (first last : Stage) → j ≤ length line → StandsAt e mode line 0 first.set → Goes e mode line j first last → StandsAt e mode line j last.set
  unfolding Goes
  goes_stands zero first last le stands goes = stands_same e mode line 0 first.set last.set goes.set stands
  goes_stands (suc j) first last le stands (middle, goes, over) = over_stands j middle last (omega arith) over (goes_stands j first middle (omega arith) stands goes)

  over_steps : (n : ℕ) (c : ℕ) (first old new : Stage) → GoesOver e mode c old new → AddsUpTo n 0 first.steps old.steps → AddsUpTo (suc n) 0 first.steps new.steps
  over_steps n c first old new over a = rw (sym one) (adds_both n 1 0 0 first.steps old.steps new.steps a here)
    where
      one : n + 1 ≡ suc n
      one = omega arith

      here : AddsUpTo 1 0 old.steps new.steps
      here = elim over.over [
        | inl r ↦ rw r.steps (reused_adds 1 0 old.steps)
        | inr rest ↦ elim rest [
          | inl b ↦ rw b.steps (built_adds 1 0 old.steps)
          | inr p ↦ rw p.steps (built_adds 1 0 old.steps)
        ]
      ]

  -- each byte counts as one step at most
  pub goes_steps : (j : ℕ) (first last : Stage) → Goes e mode line j first last → AddsUpTo j 0 first.steps last.steps
  unfolding Goes
  goes_steps zero first last goes = rw goes.steps (adds_none 0 0 first.steps)
  goes_steps (suc j) first last (middle, goes, over) = over_steps j (slice_index line j) first middle last over (goes_steps j first middle goes)

module _ (e : Expression) (line : Text) where
  -- no matched stretch ends at a place with a set that is gone over
  none_here : (j : ℕ) (set : StateSet) → j < length line → IsPlain e Search set → StandsAt e Search line j set → ¬ EndsAt e Search line j
  none_here j set lt plain stands ends =
      let reported : IsTrue false ↔ IsAccepting e Search set false = (λ no. absurd (false≢true no), λ accepts. absurd (plain refl accepts)) in
      false≢true ((matched_by e Search false false set reported line j stands (sym (not_at_end line j lt))).1 ends)

  none_more : (j : ℕ) → NoneEndsBefore e line j → ¬ EndsAt e Search line j → NoneEndsBefore e line (suc j)
  unfolding NoneEndsBefore
  none_more j none here k lt ends = elim (sides k lt) [
    | inl early ↦ none k early ends
    | inr same ↦ here (rw same at ends)
  ]
    where
      sides : (k : ℕ) → k < suc j → (k < j) ⊎ (k ≡ j)
      sides k lt = search arith

  -- no matched stretch ends where a search went on
  pub goes_none : (j : ℕ) (first last : Stage) → j ≤ length line → StandsAt e Search line 0 first.set → Goes e Search line j first last → NoneEndsBefore e line j
  unfolding Goes
  goes_none zero first last le stands goes = none_at_first e line
  goes_none (suc j) first last le stands (middle, goes, over) =
      none_more j (goes_none j first middle (omega arith) stands goes)
      (none_here j middle.set (omega arith) over.plain (goes_stands e Search line j first middle (omega arith) stands goes))

  -- bytes that are passed
  goes_past : (first : Stage) (set : StateSet) (cache : Cache) (steps : Steps) (j d : ℕ) → IsNowhere set → IsPlain e Search set → ((k : ℕ) → j ≤ k → k < d + j → ¬ CanBegin (part_of e 0) (slice_index line k))
      → Goes e Search line j first (record { set = set; cache = cache; steps = steps }) → Goes e Search line (d + j) first (record { set = set; cache = cache; steps = stepped d steps })
  goes_past first set cache steps j zero nowhere plain never goes =
      let same : j ≡ 0 + j = omega arith in
      let stage : Stage = record { set = set; cache = cache; steps = steps } in
      rw same at goes
  goes_past first set cache steps j (suc d) nowhere plain never goes =
      let same : suc (d + j) ≡ suc d + j = omega arith in
      let middle : Stage = record { set = set; cache = cache; steps = stepped d steps } in
      let last : Stage = record { set = set; cache = cache; steps = stepped (suc d) steps } in
      rw same at
      (goes_on e Search line (d + j) first middle last (goes_past first set cache steps j d nowhere plain (λ k low high. never k low (omega (arith, high))) goes) (record {
        plain = plain;
        over = inr (inr (record {
          search = refl;
          nowhere = nowhere;
          never = never (d + j) (omega arith) (omega arith);
          set = (refl, refl);
          cache = refl;
          steps = sym (stepped_more d steps);
        }));
      }))

  pub goes_to : (first : Stage) (set : StateSet) (cache : Cache) (j n : ℕ) (before after : Steps) → j ≤ n → IsNowhere set → IsPlain e Search set
      → ((k : ℕ) → j ≤ k → k < n → ¬ CanBegin (part_of e 0) (slice_index line k)) → (j < n → after ≡ many_built (n - j) before) → (n ≡ j → after ≡ before)
      → Goes e Search line j first (record { set = set; cache = cache; steps = before }) → Goes e Search line n first (record { set = set; cache = cache; steps = after })
  goes_to first set cache j n before after le nowhere plain never counted none goes =
      let sum : n - j + j ≡ n = omega arith in
      let steps : after ≡ stepped (n - j) before = stepped_is (n - j) before after (λ some. counted (omega (arith, some))) (λ over. none (omega (arith, over, le))) in
      let came = goes_past first set cache before j (n - j) nowhere plain (λ k low high. never k low (omega (arith, high))) goes in
      let there : Goes e Search line n first (record { set = set; cache = cache; steps = stepped (n - j) before }) = rw sum at came in
      rw steps there

  -- what a search for some matched stretch says
  says_search : (first : Stage) (cache : Cache) (steps : Steps) (answer : Bool) → StandsAt e Search line 0 first.set → Finishes e Search line first cache steps answer → IsTrue answer ↔ Matches e line false
  says_search first cache steps answer stands f =
      let last : Stage = record { set = f.set; cache = cache; steps = steps } in
      let here = goes_stands e Search line f.place first last f.within stands f.goes in
      elim f.decides [
        | inl i ↦ (
          λ _. matched_at e line f.place f.within ((matched_by e Search true false f.set (λ _. i.accepting, λ _. refl) line f.place here (sym (not_at_end line f.place i.within))).0 refl),
          λ _. i.yes,
        )
        | inr rest ↦ elim rest [
          | inl lost ↦ absurd (search_is_whole lost.whole)
          | inr l ↦ end_decides e line answer (rw l.last at (goes_none f.place first last f.within stands f.goes))
              (matched_by e Search answer true f.set l.reported line (length line) (rw l.last at here) (at_end line))
        ]
      ]
    where
      search_is_whole : Search ≡ Whole → ⊥
      search_is_whole is = cc

      at_end : (line : Text) → true ≡ is_end line (length line)
      at_end line = sym (eq-eqb (length line) (length line) refl)

  says_whole : (first : Stage) (cache : Cache) (steps : Steps) (answer : Bool) → StandsAt e Whole line 0 first.set → Finishes e Whole line first cache steps answer → IsTrue answer ↔ Matches e line true
  says_whole first cache steps answer stands f =
      let last : Stage = record { set = f.set; cache = cache; steps = steps } in
      let here = goes_stands e Whole line f.place first last f.within stands f.goes in
      elim f.decides [
        | inl i ↦ absurd (whole_is_search i.search)
        | inr rest ↦ elim rest [
          | inl lost ↦ (
            λ yes. absurd (false≢true (sym lost.no ∙ yes)),
            λ m. absurd (nowhere_fails e _ _ _ here lost.nowhere f.within m),
          )
          | inr l ↦ whole_decides e _ _ (matched_by e Whole answer true f.set l.reported line (length line) (rw l.last at here) (at_end line))
        ]
      ]
    where
      whole_is_search : Whole ≡ Search → ⊥
      whole_is_search is = cc

      at_end : (line : Text) → true ≡ is_end line (length line)
      at_end line = sym (eq-eqb (length line) (length line) refl)

-- a whole search
pub searches_say : {e : Expression} {line : Text} {old new : Cache} {before after : Steps} {answer : Bool} (whole : Bool) → Searches e (mode_for whole) line old new before after answer → IsTrue answer ↔ Matches e line whole
searches_say false s = says_search _ _ _ _ _ _ s.stands s.finishes
searches_say true s = says_whole _ _ _ _ _ _ s.stands s.finishes

readied_twice : (old middle first : Cache) → IsReadied old middle → IsReadied middle first → IsReadied old first
readied_twice old middle first (inl same) later = rw same at later
readied_twice old middle first (inr none) (inl same) = inr (none.0, ap (λ (cache : Cache). cache.entries) same ∙ none.1)
readied_twice old middle first (inr none) (inr still) = inr (none.0, still.1)

module _ {e : Expression} {mode : Mode} {line : Text} {old new : Cache} {before after : Steps} {answer : Bool} (s : Searches e mode line old new before after answer) where
  pub searches_steps : AddsUpTo (length line + 1) 0 before after
  searches_steps =
      let f = s.finishes in
      adds_within f.place (length line + 1) 0 0 before after (omega (arith, f.within)) (omega arith)
      (rw s.steps at (goes_steps e mode line f.place s.first (record { set = f.set; cache = new; steps = after }) f.goes))

  -- with a cache that was made ready
  pub searches_readied : (first : Cache) → IsReadied first old → Searches e mode line first new before after answer
  searches_readied first ready = record { first = s.first; stands = s.stands; cache = readied_twice _ _ _ ready s.cache; steps = s.steps; finishes = s.finishes }
