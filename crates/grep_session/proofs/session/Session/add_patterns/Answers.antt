use Rattle.{grep_session.proofs.{Prelude.{◌≡◌, ◌+◌, ◌<◌, ◌++◌, [], Ok, Bool, false, false≢true, length, map, inl, inr, refl, sym, ap, ◌∙◌, arith, All-append, length-append, length-map, map-append, list_of, matched_expression, wants_whole, AddPatterns, with_patterns, most_patterns, AreMatchers, HasChanged, exchanged, TakesSteps, all_lines, pairs_cost, inputs_of, Err, subst, EditGives, RefusesFirst}, lemmas.{EditLemmas.left_session, StepLemmas.{chosen_all, takes_touched}, SessionLemmas.inputs_are, SplicedLists.{IsSpliced, added, cut_off, list_changed, mapped}, SplicingLemmas.{are_matchers, refuses, restored, spliced_session}}, session.Session.add_patterns.Goals.{Else-too_many, After-find_columns, After-add_texts}}, std.specs.Bool.⊤, grep_core.proofs.lemmas.CostLaws.same_length, re_search.proofs.lemmas.KeptMatchers.none_asked}
use Rattle.grep_session.proofs.session.Session.add_patterns.Goals as goal

-- the patterns are not too many
not_many : (c : Else-too_many) → most_patterns < length (inputs_of c.self.inside).patterns + length (list_of c.args.list.now) → ⊥
not_many c =
    λ many. (omega (arith, many))

-- the new matchers and their patterns were added
new : (c : After-find_columns) → AreMatchers c.self.inside.syntax c.self.inside.options (list_of c.args.list.now) c.in-Ok-read_matchers.matchers.items
new c = rw c.in-Ok.ensures at (rw c.deref.ensures.value at c.in-Ok-read_matchers.ensures.ok)

count : (c : After-find_columns) → c.len-3.result ≡ length (list_of c.args.list.now)
count c = omega (arith, ap length c.in-Ok.ensures, length-map c.in-Ok.texts.items (λ text. text.items))

first : (c : After-find_columns) → c.len-first.result ≡ length c.self.inside.matchers.items
first c = omega arith

abbrev matchers : (c : After-find_columns) → IsSpliced c.len-first.result 0 c.len-3.result c.self.inside.matchers.items c.append.new.self.items
matchers c = added _ _ c.self.inside.matchers.items c.in-Ok-read_matchers.matchers.items _ (first c) (count c ∙ sym (new c).counted) c.in-Ok-append.ensures.items

abbrev patterns : (c : After-find_columns) → IsSpliced c.len-first.result 0 c.len-3.result (inputs_of c.self.inside).patterns ((inputs_of c.self.inside).patterns ++ list_of c.args.list.now)
patterns c = added _ _ (inputs_of c.self.inside).patterns (list_of c.args.list.now) _ (first c ∙ c.self.invariant.matchers.counted) (count c) refl

all : (c : After-find_columns) → AreMatchers c.self.inside.syntax c.self.inside.options ((inputs_of c.self.inside).patterns ++ list_of c.args.list.now) c.append.new.self.items
all c = are_matchers c.self.invariant (matchers c) (patterns c) (new c)

many : (c : After-find_columns) → length c.append.new.self.items ≡ c.len-first.result + c.len-3.result
many c = omega (arith, ap length c.in-Ok-append.ensures.items, length-append c.self.inside.matchers.items c.in-Ok-read_matchers.matchers.items, first c, count c, (new c).counted)

abbrev changed : (c : After-find_columns) → HasChanged (exchanged c.len-first.result 0 c.len-3.result false) (map matched_expression c.append.new.self.items) c.self.inside.options
changed c = list_changed (mapped matched_expression (matchers c)) c.self.inside.options false (inr refl) (λ on. absurd (false≢true on))

-- the steps that this took
taken : (c : After-find_columns) → (most_patterns < length (inputs_of c.self.inside).patterns + length (list_of c.args.list.now) → ⊥) → TakesSteps (AddPatterns c.args.list.now) (inputs_of c.self.inside) c.args.meter.now c.find_columns.new.meter
taken c few =
    let old = inputs_of c.self.inside in
    let steps = rw c.new-change.ensures at c.find_columns.ensures.steps in
    takes_touched (AddPatterns c.args.list.now) old (with_patterns (old.patterns ++ list_of c.args.list.now) old) _ [] _ _ (all_lines old) _ _ (inr (few, inl ((new c).readable, refl))) (all c).meant (steps (changed c) c.self.invariant.kept) (λ paired parted p q.
    (record { patterns = length (list_of c.args.list.now); paired = all_lines old; lines = parted }, (_, (new c).meant, parted, q, refl), refl, (λ i. pairs_cost (sym (count c) i) (sym (chosen_all (λ line. ⊤) (all_lines old) paired (λ line. tt) p) i))))

all_texts : (c : After-add_texts) → map (λ text. text.items) c.add_texts.new.texts.items ≡ map (λ text. text.items) c.self.inside.texts.items ++ list_of c.args.list.now
all_texts c =
    let old = c.self.inside.texts.items in
    ap (map (λ text. text.items)) (cc (c.add_texts.ensures, c.try_reserve.ensures.items)) ∙ map-append (λ text. text.items) old c.in-Ok.texts.items ∙ ap (λ l. map (λ text. text.items) old ++ l) c.in-Ok.ensures

pub returns-in-Err-read_matchers-clause-gives : goal.returns-in-Err-read_matchers-clause-gives
returns-in-Err-read_matchers-clause-gives c =
    let s = c.self.inside in
    let list = c.args.list.now in
    let refused = rw c.deref.ensures.value at c.in-Err-read_matchers.ensures.err in
    let reported = subst (λ ts. RefusesFirst s.syntax s.options.ignore_case ts c.in-Err-read_matchers.fault) c.in-Ok.ensures refused in
    let few = not_many (goal.at.returns-in-Err-read_matchers-clause-gives c).Else-too_many in
    subst (λ old. EditGives {T = Unit {0}} (AddPatterns list) old old (Err c.in-Err-read_matchers.fault)) (inputs_are c.self.view_is) (refuses (Unit {0}) (AddPatterns list) (inputs_of s) _ (list_of list) c.in-Err-read_matchers.fault (λ o read. inr (few, read)) reported)

pub invariant_of-self-in-Err-find_columns : goal.invariant_of-self-in-Err-find_columns
invariant_of-self-in-Err-find_columns c =
    let at = (goal.at.invariant_of-self-in-Err-find_columns c).After-find_columns in
    let now = same_length matched_expression _ _ c.find_columns.ensures.same_matchers.same_expressions in
    left_session c.self.inside _ refl c.try_reserve.ensures.items c.self.invariant (restored (matchers at) (cut_off _ _ c.find_columns.new.matchers.items _ (sym (now ∙ many at)) c.truncate.ensures.items) refl c.find_columns.ensures.same_matchers) c.in-Err-find_columns.ensures.err refl

pub returns-in-Err-find_columns-clause-steps : goal.returns-in-Err-find_columns-clause-steps
returns-in-Err-find_columns-clause-steps c = rw (← c.self.view_is) (taken (goal.at.returns-in-Err-find_columns-clause-steps c).After-find_columns (not_many (goal.at.returns-in-Err-find_columns-clause-steps c).Else-too_many))

pub returns-clause-steps : goal.returns-clause-steps
returns-clause-steps c = rw (← c.self.view_is) (taken (goal.at.returns-clause-steps c).After-find_columns (not_many (goal.at.returns-clause-steps c).Else-too_many))

pub invariant_of-self-2 : goal.invariant_of-self-2
invariant_of-self-2 c =
    let at = (goal.at.invariant_of-self-2 c).After-find_columns in
    spliced_session c.self.invariant (matchers at) (patterns at) (new at) _ refl (all_texts (goal.at.invariant_of-self-2 c).After-add_texts) (omega (arith, many at, first at, count at)) c.in-Ok-read_matchers.ensures.rooms c.find_columns.ensures.same_matchers ((rw c.new-change.ensures at c.in-Ok-find_columns.ensures.ok) (changed at) c.self.invariant.kept) c.find_columns.ensures.same c.lose_all.ensures

pub returns-clause-gives : goal.returns-clause-gives
returns-clause-gives c =
    let made = rw c.deref.ensures.value at c.in-Ok-read_matchers.ensures.ok in
    let readable = rw c.in-Ok.ensures at made.readable in
    rw (← c.self.view_is) (inr ((not_many (goal.at.returns-clause-gives c).Else-too_many), inl (readable, (λ i. Ok (record { syntax = c.self.inside.syntax; options = c.self.inside.options; patterns = all_texts (goal.at.returns-clause-gives c).After-add_texts i; files = c.find_columns.ensures.same i })))))

pub find_columns-requires-clause-whole : goal.find_columns-requires-clause-whole
find_columns-requires-clause-whole c =
    let Whole : Bool → Type 0 = λ w. w ≡ c.self.inside.options.line_regexp in
    let made = rw c.deref.ensures.value at c.in-Ok-read_matchers.ensures.ok in
    rw (ap (map wants_whole) c.in-Ok-append.ensures.items ∙ map-append wants_whole c.self.inside.matchers.items c.in-Ok-read_matchers.matchers.items) (All-append Whole (map wants_whole c.self.inside.matchers.items) _ c.self.invariant.matchers.wholes made.wholes)

pub find_columns-requires-clause-within : goal.find_columns-requires-clause-within
find_columns-requires-clause-within c =
    let made = rw c.deref.ensures.value at c.in-Ok-read_matchers.ensures.ok in
    rw c.new-change.ensures (omega (arith, ap length c.in-Ok-append.ensures.items, length-append c.self.inside.matchers.items c.in-Ok-read_matchers.matchers.items, length-map c.in-Ok.texts.items (λ text. text.items)))

pub returns-in-Err-clause-memory : goal.returns-in-Err-clause-memory
returns-in-Err-clause-memory c =
    rw (← c.self.view_is) (λ many. absurd (not_many (goal.at.returns-in-Err-clause-memory c).Else-too_many many))

pub returns-in-Err-read_matchers-clause-memory : goal.returns-in-Err-read_matchers-clause-memory
returns-in-Err-read_matchers-clause-memory c =
    rw (← c.self.view_is) (λ many. absurd (not_many (goal.at.returns-in-Err-read_matchers-clause-memory c).Else-too_many many))

pub returns-in-Err-try_reserve-clause-memory : goal.returns-in-Err-try_reserve-clause-memory
returns-in-Err-try_reserve-clause-memory c =
    rw (← c.self.view_is) (λ many. absurd (not_many (goal.at.returns-in-Err-try_reserve-clause-memory c).Else-too_many many))

pub returns-in-Err-append-clause-memory : goal.returns-in-Err-append-clause-memory
returns-in-Err-append-clause-memory c =
    rw (← c.self.view_is) (λ many. absurd (not_many (goal.at.returns-in-Err-append-clause-memory c).Else-too_many many))

pub returns-in-Err-find_columns-clause-memory : goal.returns-in-Err-find_columns-clause-memory
returns-in-Err-find_columns-clause-memory c =
    rw (← c.self.view_is) (λ many. absurd (not_many (goal.at.returns-in-Err-find_columns-clause-memory c).Else-too_many many))

pub invariant_of-self : goal.invariant_of-self
invariant_of-self c = left_session _ _ refl c.try_reserve.ensures.items c.self.invariant none_asked refl refl

pub invariant_of-self-in-Err-append : goal.invariant_of-self-in-Err-append
invariant_of-self-in-Err-append c =
    left_session _ _ refl c.try_reserve.ensures.items c.self.invariant (rw c.in-Err-append.ensures.items none_asked) refl refl

pub returns-then-too_many-clause-gives : goal.returns-then-too_many-clause-gives
returns-then-too_many-clause-gives c =
    let counted = c.self.invariant.matchers.counted ∙ length-map c.self.inside.texts.items (λ text. text.items) in
    rw (← c.self.view_is) (inl (omega (arith, length-map c.self.inside.texts.items (λ text. text.items)), refl), refl)

pub returns-in-Err-try_reserve-clause-gives : goal.returns-in-Err-try_reserve-clause-gives
returns-in-Err-try_reserve-clause-gives c = cc (c.try_reserve.ensures.items, (inputs_are c.self.view_is))

pub returns-in-Err-append-clause-gives : goal.returns-in-Err-append-clause-gives
returns-in-Err-append-clause-gives c = cc (c.try_reserve.ensures.items, (inputs_are c.self.view_is))

pub returns-in-Err-find_columns-clause-gives : goal.returns-in-Err-find_columns-clause-gives
returns-in-Err-find_columns-clause-gives c =
    let texts = ap (map (λ text. text.items)) c.try_reserve.ensures.items in
    (λ i. record { syntax = c.self.inside.syntax; options = c.self.inside.options; patterns = texts i; files = c.find_columns.ensures.same i }) ∙ (inputs_are c.self.view_is)

pub returns-clause-marks : goal.returns-clause-marks
returns-clause-marks c = rw (← c.self.view_is) c.lose_all.ensures
