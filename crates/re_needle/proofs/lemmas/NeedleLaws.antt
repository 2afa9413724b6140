-- Needles, and what their places say of a line.
use Rattle.{re_needle.proofs.{Prelude.{alt, map, Result, Ok, Err, IfOk, IsNeedleFor, choice_within, branches_within, cat, expression_of, Tree, IsNoWider, RunIsAt, RunStandsAt, IsLongestRun, ◌≡◌, ℕ, ◌+◌, ◌-◌, ◌≤◌, ap, inl, Bool, false, IsTrue, List, [], ◌∷◌, ◌++◌, length, drop, Option, Some, None, refl, sym, subst, arith, true, inr, ◌∙◌, length-append, is_some, Bytes, Text, only, Expression, Holds, Matches, IsFound, IsPart, Needle, RunFinder, most_sets, front_of, FindsRun, IsNeeded, RunIsNeeded, IsNeedleOf, IsRunNeedleFor, RunBegins, RunSuffices, IsJustRun, Runs, one_run, runs_of, IsSettled, LacksRun, IsOutline, IsOptional, OutlineItem, shown, take, All, ◌↔◌, false≢true, length-map, take-append-drop, dec_le}, lemmas.{NeededLaws.cat_cut, OutlineLaws.{cat_join, run_needed, run_begins, run_suffices, just_run}}}, re_trees.proofs.lemmas.{Decisions.Any-first, SomeOfJoined.Any-single}, std.specs.Prelude.{Any, suc, zero}, re_runs.proofs.lemmas.RunLaws.{some_run, one_stands, front_stands, run_rest, run_text, nowhere}}

one_wide : (run : List Bytes) → 1 ≤ length run → IsNoWider 1 (one_run run)
one_wide run some zero d lt = some
one_wide run some (suc n) d lt = absurd (omega arith)

-- one run that is needed
pub one_between : (run : List Bytes) (line : Text) (j k : ℕ) → Any (λ r. RunIsAt line k r × (k + length r ≤ j)) (one_run run) → RunIsAt line k run × (k + length run ≤ j)
one_between run line j k some = Any-single (λ r. RunIsAt line k r × (k + length r ≤ j)) run some

-- a run that is needed stands there
pub stands_there : (line : Text) (runs : Runs) (j k : ℕ) → Any (λ r. RunIsAt line k r × (k + length r ≤ j)) runs → RunStandsAt line runs k
stands_there line runs j k o = some_run runs (λ run is. is.0) o

-- where a line is matched the expression holds on a stretch
pub matched_part : (e : Expression) (line : Text) (whole : Bool) → Matches e line whole → Matches e line false
matched_part e line false m = m
matched_part e line true h = (0, length line, omega arith, h)

-- a line without a run that is needed is not matched
pub lacks_run : (e : Expression) (runs : Runs) (line : Text) (whole : Bool) → RunIsNeeded runs e → LacksRun runs line → ¬ Matches e line whole
lacks_run e runs line whole needed lacks m =
    let (i, j, within, h) = matched_part e line whole m in let there = needed line i j within h in
    lacks there.0 (stands_there _ _ j _ there.2)

-- sets that are neighbours in an outline are a needle
pub run_is_needle : (marks : List OutlineItem) (finder : RunFinder) (is_first is_all suffices is_common : Bool) (run : List Bytes) (rest : List (Option Bytes)) (start : ℕ) → runs_of finder ≡ one_run run → drop start (map shown marks) ≡ map Some run ++ rest → 1 ≤ length run
    → (IsTrue is_first → start ≡ 0) → (IsTrue is_all → length run ≡ length marks) → (IsTrue suffices → All IsOptional (take start marks) × All IsOptional (drop (length run) (drop start marks))) → (e : Expression) → IsOutline marks e
    → IsRunNeedleFor e (Some (record { finder = finder; is_first = is_first; is_all = is_all; suffices = suffices; is_common = is_common }))
run_is_needle marks finder is_first is_all suffices is_common run rest start is stands some first all others e outline = (
  record {
    needed = rw is (run_needed marks e outline run rest start stands);
    some = rw is (one_wide run some);
    first = λ reported. rw is (run_begins marks e outline _ rest _ stands (first reported));
    all = λ reported. rw is (just_run _ e outline _ rest start stands some (all reported));
    enough = λ reported. rw is (run_suffices _ e outline _ rest start stands (others reported));
  },
  run,
  is,
)

-- of a run that is needed the first sets are
pub front_needed : (front run : List Bytes) (e : Expression) → front ≡ front_of run → RunIsNeeded (one_run run) e → RunIsNeeded (one_run front) e
front_needed front run e is needed = λ line i j within h.
    let rest = drop most_sets run in let whole : run ≡ front ++ rest = cc (take-append-drop most_sets run) in
    let (k, low, some) = subst (λ r. RunIsNeeded (one_run r) e) whole needed line i j within h in
    let (there, high) = one_between (front ++ rest) line j k some in
    let near : k + length front ≤ j = omega (arith, high, length-append front rest) in
    (k, low, Any-first (λ r. RunIsAt line k r × (k + length r ≤ j)) front [] (front_stands line front rest k there, near))

module _ (e : Expression) (needle : Needle) (of : IsNeedleOf e needle) (line : Text) where
  -- where a search from a place on does not find the needle, no stretch from there on is matched
  lacks_stretch : (from i j : ℕ) → FindsRun (drop from line) (runs_of needle.finder) None → from ≤ i → j ≤ length line → Holds line e i j → ⊥
  lacks_stretch from i j none after within h =
      let (k, low, some) = of.needed line i j within h in
      nowhere (drop from line) (runs_of needle.finder) none (k - from) (run_rest (runs_of needle.finder) line from k (omega arith) (stands_there _ _ j k some))

  -- and has no part from the place on
  pub lacks_part : (whole : Bool) (from : ℕ) → FindsRun (drop from line) (runs_of needle.finder) None → (i j : ℕ) → IsFound (e ∷ []) line whole from i j → ⊥
  lacks_part whole from none i j f = lacks_stretch from i j none f.begins f.on_line (Any-single (λ x. Holds line x i j) e f.holds)

  -- and the longest run at its first place from one on is the part
  pub all_is_part : IsTrue needle.is_all → (from k end : ℕ) → from ≤ length line → FindsRun (drop from line) (runs_of needle.finder) (Some k) → IsLongestRun line (runs_of needle.finder) (from + k) end → IsPart (e ∷ []) line false from (from + k) end
  all_is_part all from k end within (first, o) is =
      let (n, run, lt, at, (there, same)) = is.ends in let some = subst (λ r. 1 ≤ length r) at (of.some n run lt) in
      let just = of.all all in
      let own = subst (λ r. RunIsAt line (from + k) r → Holds line e (from + k) (from + k + length r)) at (just.holds line (from + k) n run lt) in
      let holds : Holds line e (from + k) end = rw same (own there) in record {
        found = record { begins = omega arith; not_empty = omega arith; on_line = omega arith; is_whole = tt; holds = Any-first (λ x. Holds line x (from + k) end) e [] holds };
        earliest = not_before;
        longest = λ j f.
            let (m, other, below, here, (is_there, long)) = just.stands line (from + k) j f.on_line (Any-single (λ x. Holds line x (from + k) j) e f.holds) in
            let less = rw here at (is.longest m other below) is_there in omega arith;
      }
    where
      not_before : (i j : ℕ) → IsFound (e ∷ []) line false from i j → from + k ≤ i
      not_before i j f =
          elim (dec_le k (i - from)) [
            | yes h ↦ omega arith
            | no h ↦ absurd (first.before (i - from) (omega arith) (omega arith) (run_rest (runs_of needle.finder) line from i f.begins (some_run (runs_of needle.finder) (λ run is. is.0) ((of.all all).stands line i j f.on_line (Any-single (λ x. Holds line x i j) e f.holds)))))
          ]

  -- a needle that the line lacks, or does not begin with, or that is all and is in the line
  module _ (whole : Bool) where
    pub settled_lacks : (found : Option ℕ) → FindsRun line (runs_of needle.finder) found → is_some found ≡ false → IsSettled e whole line false
    settled_lacks (Some k) finds lacks = absurd (false≢true (sym lacks))
    settled_lacks None none lacks = inl (record { runs = runs_of needle.finder; needed = of.needed; absent = nowhere line (runs_of needle.finder) none; no = refl })

module _ (e : Expression) (line : Text) where
  -- what is said without a step
  pub settled_says : (whole : Bool) (answer : Bool) → IsSettled e whole line answer → IsTrue answer ↔ Matches e line whole
  settled_says whole answer (inl lacks) = (λ yes. absurd (false≢true (sym lacks.no ∙ yes)), λ m. absurd (lacks_run e _ _ _ lacks.needed lacks.absent m))
  settled_says whole answer (inr (inl lacks)) = (λ yes. absurd (false≢true (sym lacks.no ∙ yes)), λ m. absurd (lacks.absent (lacks.begins line 0 (length line) (omega arith) (rw lacks.all at m))))
  settled_says whole answer (inr (inr has)) = (λ _. rw has.any matches, λ _. has.yes)
    where
      matches : Matches e line false
      matches =
          let (n, run, lt, at, there) = has.stands in
          let own = subst (λ r. RunIsAt line has.place r → Holds line e has.place (has.place + length r)) at (has.enough line has.place n run lt) in
          (has.place, has.place + length run, there.fits, own there)

-- ---- expressions that hold on the same stretches

same_needle : {e : Expression} (f : Expression) {needle : Needle} → ((line : Text) (i j : ℕ) → Holds line e i j ↔ Holds line f i j) → IsNeedleOf e needle → IsNeedleOf f needle
same_needle f same of = record {
  needed = λ line i j within h. of.needed line i j within ((same line i j).1 h);
  some = of.some;
  first = λ reported line i j within h. of.first reported line i j within ((same line i j).1 h);
  all = λ reported. record { stands = λ line i j within h. (of.all reported).stands line i j within ((same line i j).1 h); holds = λ line k n d lt there. (same line k _).0 ((of.all reported).holds line k n d lt there) };
  enough = λ reported line k n d lt there. (same line k _).0 (of.enough reported line k n d lt there);
}

-- one part alone
pub alone : {E : Type 0} (e : Expression) (r : Result (Option Needle) E) → IfOk r (IsNeedleFor (cat (e ∷ []))) → IfOk r (IsNeedleFor e)
alone e (Ok None) of = tt
alone e (Ok (Some needle)) of = same_needle e (λ line i j. (λ (k, here, end). rw end at here, λ h. (j, h, refl))) of
alone e (Err x) of = tt

-- parts with a choice among them hold where those do with a branch in its place
module _ (line : Text) (before after : List Tree) where
  spread : (branches : List Tree) (i j : ℕ) → Holds line (choice_within before branches after) i j → Holds line (alt (branches_within before branches after)) i j
  spread [] i j h = absurd (cat_cut line (map expression_of before) (alt [] ∷ map expression_of after) i j h).2.1
  spread (b ∷ branches) i j h =
      let (k, first, (m, here, later)) = cat_cut line (map expression_of before) (alt (map expression_of (b ∷ branches)) ∷ map expression_of after) i j h in
      elim here [
        | inl own ↦ inl (cat_join line (map expression_of before) (expression_of b ∷ map expression_of after) i k j first (m, own, later))
        | inr other ↦ inr (spread branches i j (cat_join line (map expression_of before) (alt (map expression_of branches) ∷ map expression_of after) i k j first (m, other, later)))
      ]

  gathered : (branches : List Tree) (i j : ℕ) → Holds line (alt (branches_within before branches after)) i j → Holds line (choice_within before branches after) i j
  gathered [] i j h = absurd h
  gathered (b ∷ branches) i j (inl own) =
      let (k, first, (m, here, later)) = cat_cut line (map expression_of before) (expression_of b ∷ map expression_of after) i j own in
      cat_join _ _ _ i k j first (m, inl here, later)
  gathered (b ∷ branches) i j (inr other) =
      let (k, first, (m, here, later)) = cat_cut line (map expression_of before) (alt (map expression_of branches) ∷ map expression_of after) i j (gathered branches i j other) in
      cat_join _ _ _ i k j first (m, inr here, later)

-- what the branches need there
pub within_needle : (before branches after : List Tree) (needle : Needle) → IsNeedleOf (alt (branches_within before branches after)) needle → IsNeedleOf (choice_within before branches after) needle
within_needle before branches after needle of = same_needle _ (λ line i j. (gathered line before after branches i j, spread line before after branches i j)) of
