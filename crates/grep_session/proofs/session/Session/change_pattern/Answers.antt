use Rattle.{grep_session.proofs.{Prelude.{◌≡◌, ℕ, ◌<◌, Bool, true, false, List, Ok, All-cons, All-nil, inl, inr, refl, map, map-set, slice_set, MatchBool, Narrows, HasChanged, exchanged, IsSought, SearchesEach, Chosen, IfHolds, AreMatchers, KeepAtMost, IsMeant, IsReadable, Matcher, matched_expression, Expression, Matches, Matched, Text, Steps, length, sym, ap, ◌∙◌, arith, [], ◌∷◌, get_or, get_or_default, length-map, ChangePattern, TakesSteps, with_patterns, all_lines, IsSession, Inside, inputs_of, Err, subst, RefusesFirst, EditGives}, lemmas.{EditLemmas.left_session, NarrowingLemmas.narrower_string, SessionLemmas.inputs_are, SplicedLists.{IsSpliced, list_changed, mapped, replaced}, SplicingLemmas.{are_matchers, gone_meant, no_more, refuses, restored, spliced_session}, StepLemmas.{chosen_all, chosen_one, takes_none, takes_touched}}, session.Session.change_pattern.Goals.After-exchange-gone}, std.{specs.Bool.⊤, proofs.lemmas.List.{get_or-map, length-set, set-get_or}}, re_syntax.proofs.lemmas.{Decisions.Any-first, SomeOfJoined.Any-single}, grep_core.proofs.lemmas.CostLaws.same_length}
use Rattle.grep_session.proofs.session.Session.change_pattern.Goals as goal

-- the text of the old pattern, and whether another one narrows it
abbrev was : Inside → ℕ → Text
was s p = get_or (inputs_of s).patterns p []

abbrev NarrowsIf : Inside → ℕ → Text → Bool → Type 0
NarrowsIf s p text narrower = MatchBool narrower (Narrows s.syntax s.options (was s p) text) (Narrows s.syntax s.options (was s p) text → ⊥)

-- matcher and text of another pattern are put in its place
record IsPut (s : Inside) (p : ℕ) (text : Text) (narrower : Bool) (matcher gone : Matcher) (all : List Matcher) : Type 0 where
  pub old : IsSession s
  pub inside : p < length (inputs_of s).patterns
  pub other : text ≡ was s p → ⊥
  pub narrows : NarrowsIf s p text narrower
  pub new : AreMatchers s.syntax s.options (text ∷ []) (matcher ∷ [])
  pub few : KeepAtMost s.states (matcher ∷ [])
  pub at : gone ≡ get_or s.matchers.items p gone
  pub put : all ≡ slice_set s.matchers.items p matcher

module _ {s : Inside} {p : ℕ} {text : Text} {narrower : Bool} {matcher gone : Matcher} {all : List Matcher} (i : IsPut s p text narrower matcher gone all) where
  has_matcher : p < length s.matchers.items
  has_matcher = omega arith

  abbrev patterns : IsSpliced p 1 1 (inputs_of s).patterns (slice_set (inputs_of s).patterns p text)
  patterns = replaced p (inputs_of s).patterns (was s p) i.inside (get_or_default (inputs_of s).patterns p [] _ i.inside) _ text refl

  abbrev matchers : IsSpliced p 1 1 s.matchers.items all
  matchers = replaced p s.matchers.items gone has_matcher i.at all matcher i.put

  made : AreMatchers s.syntax s.options (slice_set (inputs_of s).patterns p text) all
  made = are_matchers i.old matchers patterns i.new

  was_meant : IsMeant s.syntax s.options.ignore_case (was s p) (matched_expression gone)
  was_meant = (gone_meant i.old matchers patterns i.new).0

  many : length all ≡ length s.matchers.items
  many = cc (i.put, length-set s.matchers.items p matcher)

  narrow : narrower ≡ true → (line : Text) → Matched (matched_expression matcher ∷ []) s.options line → Matched (matched_expression gone ∷ []) s.options line
  narrow on line some =
      let P : Expression → Type 0 = λ e. Matches e line s.options.line_regexp in
      let narrows = rw on at i.narrows in
      Any-first P (matched_expression gone) [] (narrower_string s.syntax s.options _ text _ _ narrows was_meant i.new.meant.0 line (Any-single P (matched_expression matcher) some))

  abbrev changed : HasChanged (exchanged p 1 1 narrower) (map matched_expression all) s.options
  changed = list_changed (mapped matched_expression matchers) s.options narrower (inl (omega arith)) narrow

  -- the lines that were searched by the new pattern
  paired_lines : (lines paired : List Text) → Chosen (IsSought (exchanged p 1 1 narrower) (matched_expression gone ∷ []) s.options) lines paired
      → IfHolds (Narrows s.syntax s.options (was s p) text) (Chosen (λ line. Matches (matched_expression gone) line s.options.line_regexp) lines paired) (paired ≡ lines)
  paired_lines lines paired = by_flag narrower i.narrows
    where
      by_flag : (n : Bool) → NarrowsIf s p text n → Chosen (IsSought (exchanged p 1 1 n) (matched_expression gone ∷ []) s.options) lines paired
          → IfHolds (Narrows s.syntax s.options (was s p) text) (Chosen (λ line. Matches (matched_expression gone) line s.options.line_regexp) lines paired) (paired ≡ lines)
      by_flag true narrows chosen = inl (narrows, chosen_one (matched_expression gone) s.options lines paired chosen)
      by_flag false narrows chosen = inr (narrows, chosen_all (λ line. ⊤) lines paired (λ line. tt) chosen)

  -- they were, and those that it or the old one matches for parts
  taken : (begun ended : Steps) → SearchesEach (exchanged p 1 1 narrower) (matched_expression gone ∷ []) (matched_expression matcher ∷ []) (map matched_expression all) s.options (all_lines (inputs_of s)) begun ended → TakesSteps (ChangePattern p text) (inputs_of s) begun ended
  taken begun ended steps =
      takes_touched _ _ _ _ _ _ _ _ _ _ (inl (i.inside, inl (i.new.readable, refl))) made.meant steps (λ paired parted c d.
      (record { patterns = 1; paired = paired; lines = parted }, inr (i.other, (_, was_meant, _, i.new.meant.0, paired, paired_lines _ _ c, parted, d, refl)), refl, refl))

-- the text of the pattern at a place
text_at : {V : Type 0} (items : V → Text) (texts : List V) (p : ℕ) (here : V) → p < length texts → here ≡ get_or texts p here → items here ≡ get_or (map items texts) p []
text_at items texts p here h is = cc (get_or-map items texts p here [] h)

-- what is known of the new matcher
is_put : (c : After-exchange-gone) → IsPut c.self.inside c.args.p c.args.text.items c.narrows-narrower.result c.in-Ok.matcher c.exchange-gone.result c.exchange-gone.new.matchers.items
is_put c =
    let texts = c.self.inside.texts.items in
    let here : c.args.p < length texts = omega arith in
    let old = c.deref.ensures.value ∙ text_at (λ text. text.items) texts c.args.p c.index.result.now here c.index.ensures in
    let old_again = c.deref-4.ensures.value ∙ text_at (λ text. text.items) texts c.args.p c.index-2.result.now here c.index-2.ensures in
    record {
      old = c.self.invariant;
      inside = omega (arith, length-map texts (λ text. text.items));
      other = λ same. c.if-is_text.ensures (c.deref-2.ensures.value ∙ same ∙ sym old);
      narrows = rw c.deref-5.ensures.value at
          (rw old_again at c.narrows-narrower.ensures);
      new = rw c.deref-3.ensures.value at c.in-Ok.ensures.ok;
      few = c.in-Ok.ensures.rooms;
      at = c.exchange-gone.ensures.gone;
      put = c.exchange-gone.ensures.items;
    }

pub returns-then-p-len-clause-steps : goal.returns-then-p-len-clause-steps
returns-then-p-len-clause-steps c = takes_none _ _ _

pub returns-then-is_text-clause-steps : goal.returns-then-is_text-clause-steps
returns-then-is_text-clause-steps c = takes_none _ _ _

pub returns-then-is_text-clause-gives : goal.returns-then-is_text-clause-gives
returns-then-is_text-clause-gives c =
    let s = c.self.inside in
    let p = c.args.p in
    let here : p < length s.texts.items = omega arith in
    let inside : p < length (inputs_of s).patterns = omega (arith, length-map s.texts.items (λ text. text.items)) in
    let same = sym c.deref-2.ensures.value ∙ c.if-is_text.ensures ∙ c.deref.ensures.value ∙ text_at (λ text. text.items) s.texts.items p c.index.result.now here c.index.ensures in
    let patterns = (inputs_of s).patterns in
    let Readable = IsReadable s.syntax s.options.ignore_case in
    let one : Readable c.args.text.items = rw same (c.self.invariant.matchers.readable p [] inside) in
    rw (← c.self.view_is) (inl (inside, inl (All-cons Readable c.args.text.items [] one (All-nil Readable), ap (λ l. Ok (with_patterns l (inputs_of s))) (sym (cc (set-get_or patterns p []))))))

pub returns-in-Err-clause-gives : goal.returns-in-Err-clause-gives
returns-in-Err-clause-gives c =
    let s = c.self.inside in
    let p = c.args.p in
    let text = c.args.text.items in
    let here : p < length s.texts.items = omega arith in
    let inside : p < length (inputs_of s).patterns = omega (arith, here, length-map s.texts.items (λ text. text.items)) in
    let refused = subst (λ t. RefusesFirst s.syntax s.options.ignore_case (t ∷ []) c.in-Err.fault) c.deref-3.ensures.value c.in-Err.ensures.err in
    subst (λ old. EditGives {T = Unit {0}} (ChangePattern p text) old old (Err c.in-Err.fault)) (inputs_are c.self.view_is) (refuses (Unit {0}) (ChangePattern p text) (inputs_of s) _ (text ∷ []) c.in-Err.fault (λ o read. inl (inside, read)) refused)

pub returns-in-Err-clause-steps : goal.returns-in-Err-clause-steps
returns-in-Err-clause-steps c = takes_none _ _ _

pub exchange-gone-requires : goal.exchange-gone-requires
exchange-gone-requires c = omega (arith, length-map c.self.inside.texts.items (λ text. text.items))

pub find_columns-requires-clause-whole : goal.find_columns-requires-clause-whole
find_columns-requires-clause-whole c = (made (is_put (goal.at.find_columns-requires-clause-whole c).After-exchange-gone)).wholes

pub find_columns-requires-clause-within : goal.find_columns-requires-clause-within
find_columns-requires-clause-within c =
    let i = is_put (goal.at.find_columns-requires-clause-within c).After-exchange-gone in
    rw c.new-change.ensures (omega (arith, many i, has_matcher i))

pub exchange-requires : goal.exchange-requires
exchange-requires c =
    let i = is_put (goal.at.exchange-requires c).After-exchange-gone in
    let now = same_length matched_expression _ _ c.find_columns.ensures.same_matchers.same_expressions in
    omega (arith, many i, has_matcher i)

pub invariant_of-self : goal.invariant_of-self
invariant_of-self c =
    let i = is_put (goal.at.invariant_of-self c).After-exchange-gone in
    let now = c.find_columns.new.matchers.items in
    let here : c.args.p < length now = omega (arith, same_length matched_expression _ _ c.find_columns.ensures.same_matchers.same_expressions, many i, has_matcher i) in
    let one = get_or now c.args.p c.exchange-gone.result in
    left_session c.self.inside _ refl refl c.self.invariant (restored (matchers i) (replaced c.args.p now one here (get_or_default now c.args.p _ one here) _ c.exchange-gone.result c.exchange.ensures.items) refl c.find_columns.ensures.same_matchers) c.in-Err-find_columns.ensures.err refl

pub returns-in-Err-find_columns-clause-steps : goal.returns-in-Err-find_columns-clause-steps
returns-in-Err-find_columns-clause-steps c =
    let i = is_put (goal.at.returns-in-Err-find_columns-clause-steps c).After-exchange-gone in
    let searched = rw c.new-change.ensures at c.find_columns.ensures.steps in
    rw (← c.self.view_is) (taken i _ _ (searched (changed i) c.self.invariant.kept))

pub returns-clause-steps : goal.returns-clause-steps
returns-clause-steps c =
    let i = is_put (goal.at.returns-clause-steps c).After-exchange-gone in
    let searched = rw c.new-change.ensures at c.find_columns.ensures.steps in
    rw (← c.self.view_is) (taken i _ _ (searched (changed i) c.self.invariant.kept))

pub invariant_of-self-2 : goal.invariant_of-self-2
invariant_of-self-2 c =
    let i = is_put (goal.at.invariant_of-self-2 c).After-exchange-gone in
    let kept = rw c.new-change.ensures at c.in-Ok-find_columns.ensures.ok in
    spliced_session i.old (matchers i) (patterns i) i.new _ refl (map-set (λ text. text.items) c.self.inside.texts.items c.args.p c.args.text) (no_more i.old (matchers i) (patterns i) i.new (omega arith)) i.few c.find_columns.ensures.same_matchers (kept (changed i) c.self.invariant.kept) c.find_columns.ensures.same c.lose_all.ensures

pub returns-clause-gives : goal.returns-clause-gives
returns-clause-gives c =
    let s = c.self.inside in
    let i = is_put (goal.at.returns-clause-gives c).After-exchange-gone in
    let texts = map-set (λ text. text.items) s.texts.items c.args.p c.args.text in
    rw (← c.self.view_is) (inl (i.inside, inl (i.new.readable, (λ j. Ok (record { syntax = s.syntax; options = s.options; patterns = texts j; files = c.find_columns.ensures.same j })))))

pub returns-clause-marks : goal.returns-clause-marks
returns-clause-marks c =
    let i = is_put (goal.at.returns-clause-marks c).After-exchange-gone in
    rw (← c.self.view_is) (inr (i.other, c.lose_all.ensures))
