-- What a look over a block says of the line in which it stopped.
use Rattle.{re_match.{proofs.{Prelude.{◌≡◌, ◌∙◌, sym, min, [], suc, zero, ℕ, ◌+◌, ◌-◌, ◌<◌, ◌≤◌, ◌↔◌, ◌∷◌, inr, List, Bool, true, false, Some, length, take, drop, get_or, slice_range, slice_index, ap, refl, arith, length-take, length-drop, IsTrue, Text, Expression, Matches, newline, HasNoNewline, AddsUpTo, IsLineFrom, StopsInLine, PassesAll, PassesUnmatched, ⊤, RunSuffices, Runs, RunStandsAt, FindsRun, look_cost, Swept, Sweep, Stop, Unseen, Seen, Decided, StopsAt, left_for, steps_left, steps_to, false≢true}, lemmas.StepSums.adds_on}, specs.Working.Sweeps.{CountsSweep, StopsIn, Says}}, re_trees.specs.Bytes.Bytes, re_runs.{specs.Working.Runs.{IsNoWider, RunIsAt, longest_of}, proofs.lemmas.{BlockLemmas.passed_within, Looks.{look_within, place_in_line}, RunLaws.{run_before, run_whole}, Ranges.{at_range, drop_range, length_range, line_after, newline_at, range_after}}}, re_meter.{specs.Meters.{Steps, AddsAtMost}, proofs.lemmas.Adding.adds_both}, re_needle.{specs.Working.Needles.{HasNoBegin, RunBegins}, proofs.lemmas.{NeedleLaws.settled_says, LaterStarts.rest_matched}}}
use native.Mathlib.Omega.{by_contra}

-- what a look says of the line in which it stopped, after which no byte is passed
pub stops_saying : (e : Expression) (whole : Bool) (block : Text) (start reached : ℕ) (stop : Stop) → ((n : ℕ) → left_for stop n ≡ 0) → reached ≤ length block
    → ((end : ℕ) → IsLineFrom block start end → (reached ≤ end + 1) × Says stop (Matches e (slice_range block start end) whole)) → StopsAt e whole block (record { start = start; first = start; reached = reached; stop = stop })
stops_saying e whole block start reached stop last within says = record {
  within = within;
  low = omega arith;
  line = λ end cut. let (near, right) = says end cut in record { high = cut.0; near = omega (arith, last (end + 1 - start)); same = (λ m. m, λ m. m); right = right };
}

-- that it may be matched
pub stops_seen : (e : Expression) (whole : Bool) (block : Text) (start reached : ℕ) → reached ≤ length block → ((end : ℕ) → IsLineFrom block start end → reached ≤ end + 1) → StopsAt e whole block (record { start = start; first = start; reached = reached; stop = Seen })
stops_seen e whole block start reached within near = stops_saying e _ _ _ _ _ (λ n. refl) within (λ end cut. (near end cut, tt))

-- so does one up to a place of the last line that begins before it
pub stops_before : (e : Expression) (whole : Bool) (block : Text) (start stop : ℕ) → stop ≤ length block → PassesAll (λ _. ⊤) (take stop block) start → HasNoNewline (drop start (take stop block)) → StopsAt e whole block (record { start = start; first = start; reached = stop; stop = Seen })
stops_before e whole block start stop fits front none =
    stops_seen e _ _ _ _ fits (λ end cut. let near = place_in_line block start stop end fits (omega (arith, passed_within (λ _. ⊤) (take stop block) start front, length-take stop block)) none cut in omega arith)

-- a run that was found in the block, and has no newline up to a place after it, is in the line in which
-- the look stopped
module _ (block : Text) (run : List Bytes) (start at last end : ℕ) (there : RunIsAt block at run) (some : 1 ≤ length run) (low : start ≤ at) (near : look_cost block (Some at) ≤ end + 1) (over : at + length run ≤ last) (fits : last ≤ length block) (free : HasNoNewline (slice_range block at last)) (cut : IsLineFrom block start end) where
  abbrev pub line : Text
  line = slice_range block start end

  in_line : at + length run ≤ end
  in_line = by_contra _ _ (λ far.
      let here : at ≤ end = omega arith in let back : at + (end - at) ≡ end = omega arith in
      free (end - at) 0 (omega (arith, length_range block at last fits)) (cc (at_range block at last (end - at) (omega arith), newline_at block start end cut)))

  is_in_line : RunIsAt line (at - start) run
  is_in_line = record {
    fits = omega (arith, in_line, low, length_range block start end (omega arith));
    takes = λ j below.
        let same : slice_index line (at - start + j) ≡ slice_index block (at + j) = at_range block start end (at - start + j) (omega (arith, in_line, low)) ∙ ap (λ n. get_or block n 0) (omega (arith, low)) in
        rw same (there.takes j below);
  }

-- no run is longer than the longest
within_longest : (runs : Runs) (n : ℕ) (run : List Bytes) → n < length runs → get_or runs n run ≡ run → length run ≤ longest_of runs
within_longest [] n run lt at = absurd (omega arith)
within_longest (first ∷ runs) zero run lt at = rw (sym at) (omega arith)
within_longest (first ∷ runs) (suc n) run lt at = let more = within_longest runs n run (omega arith) at in omega (arith, more)

-- a look that stopped in a line says that it is matched, if the expression holds where one of the runs is
pub stops_matched : (e : Expression) (runs : Runs) (block : Text) (swept : Swept) (at : ℕ) → RunSuffices runs e → IsNoWider 1 runs → swept.place ≡ Some at → FindsRun block runs swept.place → swept.start ≤ at
    → HasNoNewline (slice_range block at (at + min (longest_of runs) (length block - at))) → StopsInLine block swept → StopsAt e false block (record { start = swept.start; first = swept.start; reached = look_cost block swept.place; stop = Decided true })
stops_matched e runs block swept at enough wide place found low free stops = stops_saying e _ _ _ _ _ (λ n. refl) (look_within block swept.place) (λ end cut.
    let (n, run, lt, here, there) = (rw place at found).1 in let some = rw here at (wide n run lt) in
    let near = rw place at (stops end cut) in let few = within_longest runs n run lt here in let fits = there.fits in
    let in_line = is_in_line block run swept.start at _ end there some low near (omega arith) (omega arith) free cut in (
      stops end cut,
      settled_says e (slice_range block swept.start end) false true (inr (inr (record { runs = runs; enough = enough; any = refl; place = at - swept.start; stands = (n, run, lt, here, in_line); yes = refl }))),
    ))

-- ---- a line and the first run in it, with one of which each match begins

module _ (e : Expression) (runs : Runs) (block : Text) (start at end : ℕ) (begins : RunBegins runs e) (finds : FindsRun block runs (Some at)) (low : start ≤ at) (cut : IsLineFrom block start end) where
  abbrev pub its_line : Text
  its_line = slice_range block start end

  none_before : (k : ℕ) → k < at - start → RunStandsAt its_line runs k → ⊥
  none_before k below o =
      let within : start ≤ length block = omega arith in
      let here = rw (← cut.3) at (run_before runs its_line (newline ∷ drop (end + 1) block) k o) in
      finds.0.before (start + k) (omega arith) (omega arith) (run_whole runs block start k within here)

  -- as a whole it is not matched, if the run is inside it
  pub inside : start < at → ¬ Matches e its_line true
  inside before h = none_before 0 (omega arith) (begins its_line 0 (length its_line) (omega arith) h)

  -- no match begins before the run
  pub from_head : HasNoBegin e → at ≤ end → Matches e (slice_range block at end) false ↔ Matches e its_line false
  from_head free high =
      let rest_of_it : drop (at - start) its_line ≡ slice_range block at end = drop_range block start end (at - start) (omega (arith, low, high)) ∙ ap (λ n. slice_range block n end) (omega (arith, low)) in
      rw rest_of_it at (rest_matched its_line (at - start) (omega (arith, length_range block start end (omega arith), low, high)) e runs free begins none_before)

-- a look that stopped in a line says that no match begins before the place that it found
pub stops_at_head : (e : Expression) (runs : Runs) (block : Text) (swept : Swept) (at : ℕ) → HasNoBegin e → RunBegins runs e → IsNoWider 1 runs → swept.place ≡ Some at → FindsRun block runs swept.place → swept.start ≤ at
    → StopsInLine block swept → StopsAt e false block (record { start = swept.start; first = at; reached = look_cost block swept.place; stop = Seen })
stops_at_head e runs block swept at free begins wide place found low stops =
    let finds = rw place at found in
    record {
      within = look_within block swept.place;
      low = low;
      line = λ end cut.
          let (n, run, lt, here, there) = finds.1 in let some = rw here at (wide n run lt) in
          let near = rw place at (stops end cut) in let high : at ≤ end = omega arith in
          record { high = high; near = omega (arith, stops end cut); same = from_head e runs block swept.start at end begins finds low cut free high; right = tt };
    }

-- a look that stopped inside a line says that it is not matched as a whole
pub stops_inside : (e : Expression) (runs : Runs) (block : Text) (swept : Swept) (at : ℕ) → RunBegins runs e → swept.place ≡ Some at → FindsRun block runs swept.place → swept.start < at
    → StopsInLine block swept → StopsAt e true block (record { start = swept.start; first = swept.start; reached = look_cost block swept.place; stop = Decided false })
stops_inside e runs block swept at begins place found before stops = stops_saying e _ _ _ _ _ (λ n. refl) (look_within block swept.place) (λ end cut.
    (stops end cut, (λ yes. absurd (false≢true yes), λ m. absurd (inside e runs block swept.start at end begins (rw place at found) (omega arith) cut before m))))

module _ {e : Expression} {whole : Bool} (block : Text) (start : ℕ) {end : ℕ} {sweep : Sweep} (stops : StopsAt e whole (drop start block) sweep) (cut : IsLineFrom block (start + sweep.start) end) where
  stops_in : StopsIn e whole (drop start block) sweep (end - start)
  stops_in = stops.line (end - start) (line_after block start sweep.start end cut)

  -- the line at which a sweep of the rest of a block stopped
  pub same_line : (start + sweep.first ≤ end) × (Matches e (slice_range block (start + sweep.first) end) whole ↔ Matches e (slice_range block (start + sweep.start) end) whole)
  same_line = (
    omega (arith, stops_in.high),
    rw (range_after block start sweep.start end) at
        (rw (range_after block start sweep.first end) at stops_in.same),
  )

  pub decided_at : (answer : Bool) → sweep.stop ≡ Decided answer → IsTrue answer ↔ Matches e (slice_range block (start + sweep.first) end) whole
  decided_at answer says =
      let right = rw says at (rw (range_after block start sweep.start end) at stops_in.right) in
      (λ yes. same_line.1.1 (right.0 yes), λ m. right.1 (same_line.1.0 m))

  abbrev pub searched : Text
  searched = slice_range block (start + sweep.first) end

  -- the work of a sweep, and of the search of that line
  pub turn_adds : {old begun swept new : Steps} → AddsAtMost start old begun → CountsSweep sweep begun swept → AddsUpTo (steps_left sweep.stop (length searched + 1)) (left_for sweep.stop (length searched + 1)) swept new → AddsAtMost (end + 1) old new
  turn_adds a b d =
      let all = both sweep.stop stops_in.near in adds_on (adds_both _ _ _ _ _ _ _ a b.few) d all.0 all.1
    where
      long : length searched ≡ end - (start + sweep.first)
      long = length_range block (start + sweep.first) end (omega arith)

      low : sweep.start ≤ sweep.first
      low = stops.low

      high : start + sweep.first ≤ end
      high = same_line.0

      both : (stop : Stop) → sweep.reached + left_for stop (end - start + 1 - sweep.start) ≤ end - start + 1 → (start + steps_to stop sweep.start sweep.reached + steps_left stop (length searched + 1) ≤ end + 1) × (start + sweep.reached + left_for stop (length searched + 1) ≤ end + 1)
      both Unseen near = (omega (arith, long, low, high), omega (arith, long, low, high))
      both Seen near = (omega (arith, long, low, high), omega (arith, high))
      both (Decided answer) near = (omega (arith, low, high), omega (arith, high))

-- the work of a sweep after which no line is left
pub last_sweep : {e : Expression} {whole : Bool} (block : Text) {start : ℕ} {sweep : Sweep} {old begun swept : Steps} → start ≤ length block → PassesUnmatched e whole (drop start block) sweep.start → StopsAt e whole (drop start block) sweep
    → AddsAtMost start old begun → CountsSweep sweep begun swept → AddsAtMost (length block) old swept
last_sweep {e} {whole} block {start} {sweep} within passes stops a b = adds_on a b.few (most _) (omega (arith, reached, size))
  where
    few : sweep.start ≤ length (drop start block)
    few = passed_within (λ line. ¬ Matches e line whole) (drop start block) sweep.start passes

    size : length (drop start block) ≡ length block - start
    size = length-drop start block

    reached : sweep.reached ≤ length (drop start block)
    reached = stops.within

    most : (stop : Stop) → start + steps_to stop sweep.start sweep.reached ≤ length block
    most Unseen = omega (arith, few, size)
    most Seen = omega (arith, few, size)
    most (Decided answer) = omega (arith, few, reached, size)
