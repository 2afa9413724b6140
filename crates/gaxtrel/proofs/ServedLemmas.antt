-- What is found of a search that serves for another is found for that.
use Rattle.{gaxtrel.{proofs.Prelude.{◌≡◌, ◌∙◌, ℕ, ◌+◌, ◌↔◌, Bool, IsTrue, true, false, List, [], ◌∷◌, inl, inr, Option, None, Some, length, map, refl, sym, ap, subst, arith, false≢true, Text, Span, Steps, AddsAtMost, fresh, CountsSought, IsSought, Sought, Allows, Kept, Serves, Terms, expressions_in, sought_in, terms_of, Asks, AsksLine, patterns_in, AreLines, FindsLine, PutsLines, PutsNumbers, PutsParts, line_cost, steps_of, GaxtrelLine}, specs.{Calls.IsFor, declared.{held.Held.{Held, TheVariants.Patterns}, part.GaxtrelPart.GaxtrelPart, work.GaxtrelWork.GaxtrelWork}, Working.Owned.Stays}}, re_syntax.specs.Parts.ArePartsFrom, re_auto.specs.Searches.FindsPart, re_runs.proofs.lemmas.{CountedBlocks.counts_same, NextLines.finds_same}, grep_core.proofs.lemmas.{CostLaws.adds_for_more, SameChoice.{Any-Matches, ArePartsFrom-same, IsFound-same, IsPart-same, other_way}}}

-- a search serves for itself
pub serves_itself : (apart : Bool) (asked sought : Sought) → asked ≡ sought → Serves apart asked sought
serves_itself apart asked sought is = rw (← is) (record { same = λ line i j. (λ a. a, λ a. a); fewer = omega arith; whole = refl; each = λ _. refl })

still_on : (old new : Kept) → Stays old new → terms_of new ≡ terms_of old
still_on old new stays = λ i. record { apart = stays.1 i; matchers = length ((stays.0 i).expressions); limit = stays.2 i }

-- what was taken out serves for what is searched for, and is on these terms
served : {t : Terms} {held : Option Held} {sought : Sought} {boxed now : Held} {kept : Kept} → IsFor t held sought → held ≡ Some boxed → now ≡ boxed → now ≡ Patterns kept → Serves t.apart (sought_in kept) sought × (terms_of kept ≡ t)
served {t} {sought = sought} {kept = kept} is taken value kind =
    let both : Some is.kept ≡ Some kept = sym is.is_there ∙ ap patterns_in (taken ∙ ap Some (sym value ∙ kind)) in
    let same : is.kept ≡ kept = cc both in
    (subst (λ (k : Kept). Serves t.apart (sought_in k) sought) same is.serves, subst (λ (k : Kept). terms_of k ≡ t) same is.is_on)

-- a limit is set
pub limited : {t : Terms} {held : Option Held} {sought : Sought} {boxed now : Held} {kept : Kept} → IsFor t held sought → held ≡ Some boxed → now ≡ boxed → now ≡ Patterns kept
    → (limit : ℕ) (after : Option Held) (last : Kept) → after ≡ Some (Patterns last) → sought_in last ≡ sought_in kept → last.apart ≡ kept.apart → last.limit ≡ limit
    → IsFor (record { apart = t.apart; matchers = t.matchers; limit = limit }) after sought
limited {t} {sought = sought} is taken value kind limit after last holds same apart limits =
    let (serves, on) = served is taken value kind in
    record {
      kept = last;
      is_there = ap patterns_in holds;
      is_on = λ i. record { apart = (apart ∙ ap (λ (u : Terms). u.apart) on) i; matchers = (ap (λ (s : Sought). length s.expressions) same ∙ ap (λ (u : Terms). u.matchers) on) i; limit = limits i };
      serves = subst (λ s. Serves t.apart s sought) (sym same) serves;
    }

-- patterns were taken out, asked and put back: what holds of all that they serve for
pub asked : {held after : Option Held} {boxed now : Held} {kept last : Kept} {work : GaxtrelWork} {answer : ℕ} {Answered : Terms → Sought → Type 0} → held ≡ Some boxed → now ≡ boxed → now ≡ Patterns kept
    → after ≡ Some (Patterns last) → Stays kept last → ((sought : Sought) → Serves kept.apart (sought_in kept) sought → Answered (terms_of kept) sought) → Asks held after work answer Answered
asked {kept = kept} {last = last} {Answered = Answered} taken value kind holds stays answered = (
  (λ none. absurd (cc (sym none ∙ ap patterns_in (taken ∙ ap Some (sym value ∙ kind))))),
  (λ t sought is.
      let (serves, on) = served is taken value kind in (
        record { kept = last; is_there = ap patterns_in holds; is_on = still_on kept last stays ∙ on; serves = subst (λ s. Serves t.apart s sought) (sym stays.0) serves },
        subst (λ u. Answered u sought) on (answered sought (subst (λ (u : Terms). Serves u.apart (sought_in kept) sought) (sym on) serves)),
      )),
)

module _ {apart : Bool} {asked sought : Sought} (serves : Serves apart asked sought) where
  is_here : (line : Text) → IsSought asked line → IsSought sought line
  is_here line is = rw serves.whole at (Any-Matches asked.expressions sought.expressions serves.same line asked.whole is)

  is_there : (line : Text) → IsSought sought line → IsSought asked line
  is_there line is = Any-Matches sought.expressions asked.expressions (other_way asked.expressions sought.expressions serves.same) line asked.whole (rw serves.whole is)

  pub line_served : (line : Text) → IsSought asked line ↔ IsSought sought line
  line_served line = (is_here line, is_there line)

  pub part_served : (line : Text) (from : ℕ) (found : Option Span) → FindsPart asked.expressions line asked.whole from found → FindsPart sought.expressions line sought.whole from found
  part_served line from None none = rw (← serves.whole) (λ i j f. none i j (IsFound-same sought.expressions asked.expressions (other_way asked.expressions sought.expressions serves.same) line asked.whole from i j f))
  part_served line from (Some s) part = rw serves.whole at (IsPart-same asked.expressions sought.expressions serves.same line asked.whole from s.start s.end part)

  pub parts_served : (line : Text) (from : ℕ) (old new : List GaxtrelPart) (count : ℕ) → PutsParts asked line from old new count → PutsParts sought line from old new count
  parts_served line from old new count (all, are, long, put) =
      let places = map (λ (part : GaxtrelPart). (part.start, part.end)) all in
      (all, subst (λ w. ArePartsFrom sought.expressions line w from places) serves.whole (ArePartsFrom-same asked.expressions sought.expressions serves.same line asked.whole from places are), long, put)

  pub numbers_served : apart ≡ true → (line : Text) (old new : List ℕ) (count : ℕ) → PutsNumbers asked line old new count → PutsNumbers sought line old new count
  numbers_served is line old new count = subst (λ (s : Sought). PutsNumbers s line old new count) (λ i. record { expressions = serves.each is i; whole = serves.whole i })

  pub count_served : (lines : List Text) (count : ℕ) → CountsSought asked lines count → CountsSought sought lines count
  count_served lines count counts = counts_same (IsSought asked) (IsSought sought) is_here is_there lines count counts

  pub cost_served : (text : Text) (old new : Steps) → AddsAtMost (line_cost (length asked.expressions) text) old new → AddsAtMost (line_cost (length sought.expressions) text) old new
  cost_served text old new few = adds_for_more (length asked.expressions) (length sought.expressions) (length text + 1) old new serves.fewer few

  same_lines : (lines : List Text) (at number : ℕ) (all : List GaxtrelLine) → AreLines asked lines at number all → AreLines sought lines at number all
  same_lines [] at number all none = none
  same_lines (line ∷ lines) at number all (inl (holds, (more, is, are))) = inl (is_here line holds, (more, is, same_lines lines _ _ more are))
  same_lines (line ∷ lines) at number all (inr (not, are)) = inr ((λ h. not (is_there line h)), same_lines lines _ _ all are)

  pub lines_served : (text : Text) (from number count : ℕ) (old new : List GaxtrelLine) (begun ended : Steps) → PutsLines asked text from number old new count begun ended → PutsLines sought text from number old new count begun ended
  lines_served text from number count old new begun ended puts = record {
    all = puts.all;
    are = same_lines _ _ _ _ puts.are;
    counted = puts.counted;
    put = puts.put;
    few = adds_for_more (length asked.expressions) (length sought.expressions) _ begun ended serves.fewer puts.few;
    fewer = λ full. adds_for_more (length asked.expressions) (length sought.expressions) _ begun ended serves.fewer (puts.fewer full);
  }

  pub next_served : (text : Text) (from : ℕ) (place : Option Span) (old new : Steps) → FindsLine asked text from place old new → FindsLine sought text from place old new
  next_served text from place old new finds = record {
    found = finds.found;
    finds = finds_same (IsSought asked) (IsSought sought) is_here is_there _ finds.found finds.finds;
    is_place = finds.is_place;
    few = adds_for_more (length asked.expressions) (length sought.expressions) _ old new serves.fewer finds.few;
  }

module _ {held after : Option Held} {boxed now : Held} {kept : Kept} {work : GaxtrelWork} {answer : ℕ} {Answered : Terms → Sought → Type 0} (line : Text) (taken : held ≡ Some boxed) (value : now ≡ boxed) (kind : now ≡ Patterns kept)
  where
    -- a call for a line is stopped
    pub stopped : IsTrue false ↔ Allows (terms_of kept) (length line) → answer ≡ 5 → after ≡ Some (Patterns kept) → steps_of work ≡ fresh → AsksLine held after work answer line Answered
    stopped may told holds none = asked taken value kind holds (refl, refl, refl) (λ sought serves. inl ((λ h. false≢true (may.1 h)), told, holds ∙ ap Some (sym kind ∙ value) ∙ sym taken, none))

    -- or it searches
    pub asked_line : {last : Kept} {begun ended : Steps} → IsTrue true ↔ Allows (terms_of kept) (length line) → after ≡ Some (Patterns last) → Stays kept last → begun ≡ fresh → AddsAtMost (line_cost (length (expressions_in kept)) line) begun ended → steps_of work ≡ ended
        → ((sought : Sought) → Serves kept.apart (sought_in kept) sought → Answered (terms_of kept) sought) → AsksLine held after work answer line Answered
    asked_line {ended = ended} may holds stays none few shown answered =
        let cost : AddsAtMost (line_cost (length (expressions_in kept)) line) fresh (steps_of work) = rw shown (rw none at few) in
        asked taken value kind holds stays (λ sought serves. inr (may.0 refl, cost_served serves line _ _ cost, answered sought serves))
