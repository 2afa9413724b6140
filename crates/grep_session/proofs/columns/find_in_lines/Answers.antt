use Rattle.{grep_session.proofs.{Prelude.{◌≡◌, ◌+◌, ◌<◌, [], ◌∷◌, ◌++◌, All, length, map, take, get_or, arith, take_all, all_of, line_text, IsKept, SearchesEach, HasChanged, AreSame, drop, refl, matched_expression}, lemmas.{AddingLemmas.all_back, FoundLemmas.{adds_no_column, adds_columns, adds_column, all_by_chunk, chunks_next, texts_next, texts_rest}, StepLemmas.{not_searched, each_both, each_front}}, columns.find_in_lines.Goals.After-find_in_chunk}, grep_core.proofs.lemmas.CostLaws.same_length, re_search.proofs.lemmas.KeptMatchers.{none_asked, same_over, still_alike}}
use Rattle.grep_session.proofs.columns.find_in_lines.Goals as goal

pub loop-i-init : goal.loop-i-init
loop-i-init c = record {
  found = adds_no_column _ _ _ _;
  same_matchers = none_asked;
  room = refl;
  steps = λ h k. not_searched _ _ _ _ _ _ _;
}

pub find_in_chunk-requires-clause-whole : goal.find_in_chunk-requires-clause-whole
find_in_chunk-requires-clause-whole c = rw c.deref_mut.ensures.value (still_alike c.loop-i.invariant.same_matchers c.requires.whole)

pub find_in_chunk-requires-clause-within : goal.find_in_chunk-requires-clause-within
find_in_chunk-requires-clause-within c = rw c.deref_mut.ensures.value (rw (same_length matched_expression _ _ c.loop-i.invariant.same_matchers.same_expressions) c.requires.within)

-- the matchers are the same as before
same : (c : After-find_in_chunk) → let now = c.find_in_chunk.new.matchers in AreSame c.args.matchers.now.items (take c.loop-i.matchers.len (now ++ drop (length now) c.loop-i.matchers.items))
same c =
    let one = rw c.deref_mut.ensures.value at c.find_in_chunk.ensures.same_matchers in
    rw (all_back _ _ _ c.loop-i.matchers.ok.0 (same_length matched_expression _ _ one.same_expressions)) (same_over one c.loop-i.invariant.same_matchers)

-- the steps up to here
spent : (c : After-find_in_chunk) → let es = map matched_expression c.args.matchers.now.items in let chunks = c.args.lines.now in let options = c.args.search.now.options in (h : HasChanged c.args.change es options)
    → All (IsKept h.before h.was) (all_of chunks) → SearchesEach c.args.change h.gone h.come es options (map line_text (all_of (take (c.loop-i.i + 1) chunks))) c.args.meter.now c.find_in_chunk.new.meter
spent c = λ h k.
    let s = c.loop-i.invariant in
    let i = c.loop-i.i in
    let inside : i < length c.args.lines.now = omega arith in
    let chunk : c.chunk.result.now ≡ get_or c.args.lines.now i [] = c.chunk.ensures in
    let one = rw (c.deref_mut.ensures.value, s.same_matchers.same_expressions) at c.find_in_chunk.ensures.steps in
    let kept : All (IsKept h.before h.was) c.chunk.result.now = rw chunk (all_by_chunk (IsKept h.before h.was) _ k i [] inside) in
    each_both _ _ _ _ _ _ _ _ _ _ _ (cc (texts_next _ i inside)) (s.steps h k) (one h kept)

pub returns-in_err-one-clause-steps : goal.returns-in_err-one-clause-steps
returns-in_err-one-clause-steps c = λ h k.
    each_front _ _ _ _ _ _ _ _ _ _ (texts_rest c.args.lines.now c.loop-i.i (omega arith)) (spent (goal.at.returns-in_err-one-clause-steps c).After-find_in_chunk h k)

pub returns-in_err-push-clause-steps : goal.returns-in_err-push-clause-steps
returns-in_err-push-clause-steps c = λ h k.
    each_front _ _ _ _ _ _ _ _ _ _ (texts_rest c.args.lines.now c.loop-i.i (omega arith)) (spent (goal.at.returns-in_err-push-clause-steps c).After-find_in_chunk h k)

pub loop-i-preserved : goal.loop-i-preserved
loop-i-preserved c =
    let s = c.loop-i.invariant in
    let i = c.loop-i.i in
    let es = map matched_expression c.args.matchers.now.items in
    let inside : i < length c.args.lines.now = omega arith in
    let right = rw (c.deref_mut.ensures.value, s.same_matchers.same_expressions) at c.in_ok-one.ensures.ok in
    let one = adds_column c.args.change es c.args.search.now.options c.chunk.result.now c.in_ok-one.one c.loop-i.found.items c.push.new.all.items c.in_ok-push.ensures.ok c.in_ok-one.ensures.fits right in
    record {
      found = adds_columns c.args.change es c.args.search.now.options (take i c.args.lines.now) (c.chunk.result.now ∷ []) _ _ _ _ (cc (chunks_next c.args.lines.now i inside, c.chunk.ensures)) s.found one;
      same_matchers = same (goal.at.loop-i-preserved c).After-find_in_chunk;
      room = s.room;
      steps = spent (goal.at.loop-i-preserved c).After-find_in_chunk;
    }

pub returns-clause-ok : goal.returns-clause-ok
returns-clause-ok c =
    let all : take c.loop-i.i c.args.lines.now ≡ c.args.lines.now = take_all _ _ (omega arith) in
    rw all at c.loop-i.invariant.found

pub returns-clause-steps : goal.returns-clause-steps
returns-clause-steps c = λ h k.
    let all : take c.loop-i.i c.args.lines.now ≡ c.args.lines.now = take_all _ _ (omega arith) in
    rw all at (c.loop-i.invariant.steps h k)

pub returns-in_err-one-clause-same_matchers : goal.returns-in_err-one-clause-same_matchers
returns-in_err-one-clause-same_matchers c = same (goal.at.returns-in_err-one-clause-same_matchers c).After-find_in_chunk

pub returns-in_err-push-clause-same_matchers : goal.returns-in_err-push-clause-same_matchers
returns-in_err-push-clause-same_matchers c = same (goal.at.returns-in_err-push-clause-same_matchers c).After-find_in_chunk
