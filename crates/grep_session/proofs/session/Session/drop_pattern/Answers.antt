use Rattle.{grep_session.proofs.{Prelude.{◌≡◌, ℕ, ◌≤◌, ◌<◌, List, [], ◌∷◌, Ok, length, map, remove, get_or, get_or_default, inl, refl, sym, arith, false, false≢true, All, All-nil, length-map, Matcher, matched_expression, Steps, AreMatchers, AreSame, HasChanged, exchanged, SearchesEach, IsFileKept, kept_file, lost, IsSession, Inside, inputs_of, with_patterns, DropPattern, TakesSteps, parts_alone, all_lines}, lemmas.{EditLemmas.left_session, SessionLemmas.map-remove, SplicedLists.{IsSpliced, inserted, list_changed, mapped, removed}, SplicingLemmas.{are_matchers, gone_meant, no_matchers, no_more, restored, spliced_session}, StepLemmas.{chosen_one, pairs_cost-none, takes_none, takes_touched}}, session.Session.drop_pattern.Goals.Else-p-len}, re_search.proofs.lemmas.KeptMatchers.none_asked, grep_core.proofs.lemmas.CostLaws.same_length}
use Rattle.grep_session.proofs.session.Session.drop_pattern.Goals as goal

-- there is such a pattern
inside : (c : Else-p-len) → c.args.p < length (inputs_of c.self.inside).patterns
inside c = omega (arith, length-map c.self.inside.texts.items (λ text. text.items))

module _ (s : Inside) (p : ℕ) (old : IsSession s) (h : p < length (inputs_of s).patterns) where
  has_matcher : p < length s.matchers.items
  has_matcher = omega arith

  -- the patterns without it
  abbrev patterns : IsSpliced p 1 0 (inputs_of s).patterns (remove (inputs_of s).patterns p)
  patterns = removed p (inputs_of s).patterns (get_or (inputs_of s).patterns p []) h (get_or_default (inputs_of s).patterns p [] _ h) _ refl

  -- the matchers without its own
  module _ (gone : Matcher) (left : List Matcher) (is : gone ≡ get_or s.matchers.items p gone) (rest : left ≡ remove s.matchers.items p) where
    abbrev matchers : IsSpliced p 1 0 s.matchers.items left
    matchers = removed p s.matchers.items gone has_matcher is left rest

    abbrev changed : HasChanged (exchanged p 1 0 false) (map matched_expression left) s.options
    changed = list_changed (mapped matched_expression matchers) s.options false (inl (omega arith)) (λ on. absurd (false≢true on))

    all : AreMatchers s.syntax s.options (remove (inputs_of s).patterns p) left
    all = are_matchers old matchers patterns (no_matchers s.syntax s.options)

    dropped : (t : Inside) → t ≡ record s { texts = t.texts; matchers = t.matchers; files = t.files; marks = t.marks } → t.texts.items ≡ remove s.texts.items p → AreSame left t.matchers.items → All (IsFileKept (map matched_expression t.matchers.items) s.options) t.files.items → map kept_file t.files.items ≡ map kept_file s.files.items
        → t.marks.items ≡ map lost s.marks.items → IsSession t
    dropped t is texts same kept files marks =
        spliced_session old matchers patterns (no_matchers s.syntax s.options) t is (map-remove (λ text. text.items) s.texts.items t.texts.items p texts) (no_more old matchers patterns (no_matchers s.syntax s.options) (omega arith)) (All-nil (λ room. room ≤ s.states)) same kept files marks

    -- the parts of the lines that it matched were searched
    taken : (begun ended : Steps) → SearchesEach (exchanged p 1 0 false) (matched_expression gone ∷ []) [] (map matched_expression left) s.options (all_lines (inputs_of s)) begun ended → TakesSteps (DropPattern p) (inputs_of s) begun ended
    taken begun ended steps =
        let inputs = inputs_of s in
        takes_touched (DropPattern p) inputs (with_patterns (remove inputs.patterns p) inputs) _ _ [] _ (all_lines inputs) begun ended (inl (h, refl)) all.meant steps (λ paired parted c d.
        (parts_alone parted, (matched_expression gone, (gone_meant old matchers patterns (no_matchers s.syntax s.options)).0, parted, chosen_one (matched_expression gone) s.options (all_lines inputs) parted d, refl), refl, sym (pairs_cost-none paired)))

pub returns-then-p-len-clause-steps : goal.returns-then-p-len-clause-steps
returns-then-p-len-clause-steps c = takes_none _ _ _

pub remove-requires : goal.remove-requires
remove-requires c = let s = c.self.inside in omega (arith, length-map s.texts.items (λ text. text.items))

pub remove-gone-requires : goal.remove-gone-requires
remove-gone-requires c = let s = c.self.inside in omega (arith, length-map s.texts.items (λ text. text.items))

pub invariant_of-self : goal.invariant_of-self
invariant_of-self c =
    let s = c.self.inside in
    let within = inside (goal.at.invariant_of-self c).Else-p-len in
    let es = map matched_expression s.matchers.items in
    let kept = c.drop_column.ensures.kept es s.options (omega (arith, has_matcher s c.args.p c.self.invariant within, length-map s.matchers.items matched_expression)) c.if-not-self.true c.self.invariant.kept in
    dropped s c.args.p c.self.invariant within _ c.remove.new.self.items c.remove.ensures.value c.remove.ensures.items _ refl c.remove-then-not-self-3.ensures.items none_asked
    (rw (map-remove matched_expression s.matchers.items c.remove.new.self.items c.args.p c.remove.ensures.items) kept) c.drop_column.ensures.same c.lose_all.ensures

pub returns-then-not-self-clause-gives : goal.returns-then-not-self-clause-gives
returns-then-not-self-clause-gives c =
    let s = c.self.inside in
    let texts = map-remove (λ text. text.items) s.texts.items c.remove-then-not-self-3.new.self.items c.args.p c.remove-then-not-self-3.ensures.items in
    rw (← c.self.view_is) (inl (inside (goal.at.returns-then-not-self-clause-gives c).Else-p-len, (λ i. Ok (record { syntax = s.syntax; options = s.options; patterns = texts i; files = c.drop_column.ensures.same i }))))

pub returns-then-not-self-clause-steps : goal.returns-then-not-self-clause-steps
returns-then-not-self-clause-steps c = takes_none _ _ _

pub returns-then-not-self-clause-marks : goal.returns-then-not-self-clause-marks
returns-then-not-self-clause-marks c = rw (← c.self.view_is) c.lose_all.ensures

pub find_columns-requires-clause-whole : goal.find_columns-requires-clause-whole
find_columns-requires-clause-whole c = (all c.self.inside c.args.p c.self.invariant (inside (goal.at.find_columns-requires-clause-whole c).Else-p-len) _ _ c.remove-gone.ensures.value c.remove-gone.ensures.items).wholes

pub put_back-requires : goal.put_back-requires
put_back-requires c =
    let there = has_matcher c.self.inside c.args.p c.self.invariant (inside (goal.at.put_back-requires c).Else-p-len) in
    let as_many = same_length matched_expression _ _ c.find_columns.ensures.same_matchers.same_expressions in
    record {
      within = omega arith;
      room = omega arith;
    }

pub invariant_of-self-in-Err : goal.invariant_of-self-in-Err
invariant_of-self-in-Err c =
    let s = c.self.inside in
    let within = inside (goal.at.invariant_of-self-in-Err c).Else-p-len in
    let as_many = same_length matched_expression _ _ c.find_columns.ensures.same_matchers.same_expressions in
    left_session s _ refl refl c.self.invariant (restored (matchers s c.args.p c.self.invariant within _ _ c.remove-gone.ensures.value c.remove-gone.ensures.items) (inserted c.args.p c.find_columns.new.matchers.items _ c.remove-gone.result (omega (arith, has_matcher s c.args.p c.self.invariant within)) c.put_back.ensures) refl c.find_columns.ensures.same_matchers) c.in-Err.ensures.err refl

pub returns-in-Err-clause-steps : goal.returns-in-Err-clause-steps
returns-in-Err-clause-steps c =
    let within = inside (goal.at.returns-in-Err-clause-steps c).Else-p-len in
    let searched = rw c.new-change.ensures at c.find_columns.ensures.steps in
    rw (← c.self.view_is) (taken c.self.inside c.args.p c.self.invariant within _ _ c.remove-gone.ensures.value c.remove-gone.ensures.items _ _ (searched (changed c.self.inside c.args.p c.self.invariant within _ _ c.remove-gone.ensures.value c.remove-gone.ensures.items) c.self.invariant.kept))

pub returns-clause-steps : goal.returns-clause-steps
returns-clause-steps c =
    let within = inside (goal.at.returns-clause-steps c).Else-p-len in
    let searched = rw c.new-change.ensures at c.find_columns.ensures.steps in
    rw (← c.self.view_is) (taken c.self.inside c.args.p c.self.invariant within _ _ c.remove-gone.ensures.value c.remove-gone.ensures.items _ _ (searched (changed c.self.inside c.args.p c.self.invariant within _ _ c.remove-gone.ensures.value c.remove-gone.ensures.items) c.self.invariant.kept))

pub invariant_of-self-2 : goal.invariant_of-self-2
invariant_of-self-2 c =
    let within = inside (goal.at.invariant_of-self-2 c).Else-p-len in
    let kept = rw c.new-change.ensures at c.in-Ok.ensures.ok in
    dropped c.self.inside c.args.p c.self.invariant within _ _ c.remove-gone.ensures.value c.remove-gone.ensures.items _ refl c.remove-2.ensures.items c.find_columns.ensures.same_matchers (kept (changed c.self.inside c.args.p c.self.invariant within _ _ c.remove-gone.ensures.value c.remove-gone.ensures.items) c.self.invariant.kept) c.find_columns.ensures.same c.lose_all-2.ensures

pub returns-clause-gives : goal.returns-clause-gives
returns-clause-gives c =
    let s = c.self.inside in
    let texts = map-remove (λ text. text.items) s.texts.items c.remove-2.new.self.items c.args.p c.remove-2.ensures.items in
    rw (← c.self.view_is) (inl (inside (goal.at.returns-clause-gives c).Else-p-len, (λ i. Ok (record { syntax = s.syntax; options = s.options; patterns = texts i; files = c.find_columns.ensures.same i }))))

pub returns-clause-marks : goal.returns-clause-marks
returns-clause-marks c = rw (← c.self.view_is) c.lose_all-2.ensures
