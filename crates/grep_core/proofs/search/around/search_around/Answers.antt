use Rattle.{grep_core.proofs.{Prelude.{Decides, ◌≡◌, ◌+◌, ◌≤◌, ◌∙◌, [], ◌∷◌, ◌++◌, true, length, length-append, append_assoc, take, refl, sym, ap, arith, if◌then◌else◌, terminated, SearchesLines, Selected, writer, IsOneLineAndFew, LastLines, Text, Numbered, HasHanded, next_shown, last_of, expressions_of}, lemmas.{WaitingRows.if_kept, CostLaws.{searched_bytes, searched_more_lines, searched_one_line, searched_once, unsearched_lines}, PassedLines.{are_ahead, next_first, passed_state, handed_with, handed_passed}, SearchedBlockLemmas.{asked_forward, asked_due, divided_kept, stretch_spent, unselected_before, selected_matched, plain_if, before_within, before_block, before_lines, before_counted, before_free}, Verdicts.decided_yes, WrittenLemmas.TakesAll-written, AroundSearch.{FollowedOn, followed_none, followed_waiting, waiting_limit, followed_unkept, followed_sent, held_few, followed_line, followed_stops}, LinesLemmas.{may_count, fewer_left, ends_as, stops_as}, OneLineLemmas.is_err}, search.around.search_around.Goals.{After-pass-in-lines, In-Some, In-Ok-None}}, re_search.proofs.lemmas.KeptMatchers.{none_asked, same_over, same_sought}, grep_io.proofs.lemmas.WindowLemmas.{none_in_nothing, few_after}}
use Rattle.grep_core.proofs.search.around.search_around.Given as given
use Rattle.grep_core.proofs.search.around.search_around.Goals as goal

-- a line that is held is selected, none of those before it is, and these were searched
at_selected : (g : given.Over) (c : In-Some g)
    → (mid : Numbered g.row.R.Denot) × (s : FollowedOn c.lines.invariant.so_far mid (writer g.W.CountedWrite.contents g.W.CountedWrite.failures c.lines.out) c.lines.meter c.lines.selected c.wait.new.surroundings.progress c.wait.new.surroundings.recent.lines)
    × (c.lines.invariant.so_far.so_far.lines ++ c.next_held-stretch.ensures.divided.1 ≡ s.so_far.lines ++ c.in-Some.text.now ∷ [])
    × HasHanded g.R.CountedRead.remaining g.R.CountedRead.failures c.args.lines.now.lines.reader (passed_state c.next_held-stretch.ensures.divided.3 c.next_held-stretch.ensures.divided.2.free) (s.so_far.lines ++ c.in-Some.text.now ∷ [])
    × SearchesLines c.args.request.now.options (length (expressions_of c.args.matchers.now)) (s.so_far.lines ++ c.in-Some.text.now ∷ []) c.args.meter.now c.next_held-stretch.new.meter
    × Decides true (Selected (expressions_of c.args.matchers.now) c.args.request.now.options c.in-Some.text.now) × (1 ≤ c.next_held-stretch.result.count)
at_selected g c =
    let w = c.args.request.now in
    let es = expressions_of c.args.matchers.now in
    let i = c.lines.invariant in
    let held = c.next_held-stretch.ensures in
    let (before, all, d, n) = held.divided in
    let spent = searched_bytes w.options (length es) all (stretch_spent i.same.same_expressions d held.steps) in
    let count = c.next_held-stretch.result.count in
    let forward = asked_forward c.lines.surroundings.progress.left w.options.invert_match count held.none in
    let kept = divided_kept (sym (same_sought i.same)) d in
    let unselected = unselected_before es w.options count forward before (before_within d) kept.none in
    let waits = rw (before_lines d) at (if_kept c.wait.result c.is_err.ensures.value c.if-is_err.false c.wait.ensures) in
    let line = c.in-Some.text.now in
    let (holds, is) = rw c.in-Some.is at kept.next in
    let some : 1 ≤ count = omega (arith, d.counted, ap length is, length-append before (line ∷ [])) in
    let reported = decided_yes (selected_matched es w.options (plain_if w.options.invert_match count forward some) line holds) in
    let first = next_first before (line ∷ []) (rw is at n) in
    let (s, are) = followed_waiting i.limit i.so_far (handed_with first (before_free d) i.so_far.so_far.handed) unselected waits (unsearched_lines w.options (length es) before c.lines.meter) in
    let same = ap (λ ls. i.so_far.so_far.lines ++ ls) is ∙ sym (append_assoc i.so_far.so_far.lines before (line ∷ [])) ∙ ap (λ ls. ls ++ line ∷ []) (sym are) in
    let all_spent = rw same at (searched_more_lines w.options (length es) i.so_far.so_far.lines all i.so_far.so_far.steps spent) in
    let next = rw same at (handed_with n d.free i.so_far.so_far.handed) in
    (passed_state first (before_free d), s, same, next, all_spent, reported, some)

-- the lines that are held were searched, and none of them is selected
held_searched : (g : given.Over) (c : After-pass-in-lines g) → FollowedOn c.lines.invariant.so_far c.pass-in-lines.new.self (writer g.W.CountedWrite.contents g.W.CountedWrite.failures c.lines.out) c.next_held-stretch.new.meter c.lines.selected c.wait.new.surroundings.progress c.wait.new.surroundings.recent.lines
held_searched g c =
    let w = c.args.request.now in
    let es = expressions_of c.args.matchers.now in
    let i = c.lines.invariant in
    let held = c.next_held-stretch.ensures in
    let (before, all, d, n) = held.divided in
    let spent = searched_bytes w.options (length es) all (stretch_spent i.same.same_expressions d held.steps) in
    let count = c.next_held-stretch.result.count in
    let forward = asked_forward c.lines.surroundings.progress.left w.options.invert_match count held.none in
    let kept = divided_kept (sym (same_sought i.same)) d in
    let unselected = unselected_before es w.options count forward before (before_within d) kept.none in
    let waits = rw (before_lines d) at (if_kept c.wait.result c.is_err.ensures.value c.if-is_err.false c.wait.ensures) in
    let is = rw c.in_default.is at d.next in
    let passed = rw is at (handed_passed n d.free i.so_far.so_far.handed d.width c.pass-in-lines.ensures.passed) in
    (followed_waiting i.limit i.so_far passed unselected waits (rw is at spent)).0

-- buffered output was sent, and one more line was handed out
next_line : (g : given.Over) (c : In-Ok-None g) {line : Text} → line ≡ c.take_next.new.lines.lines.line
    → (s : FollowedOn c.lines.invariant.so_far c.pass-in-lines.new.self (writer g.W.CountedWrite.contents g.W.CountedWrite.failures c.take_next.new.out) c.next_held-stretch.new.meter c.lines.selected c.wait.new.surroundings.progress c.wait.new.surroundings.recent.lines)
    × HasHanded g.R.CountedRead.remaining g.R.CountedRead.failures c.args.lines.now.lines.reader c.take_next.new.lines (s.so_far.lines ++ line ∷ []) × IsOneLineAndFew c.take_next.new.lines.lines.ahead
next_line g c is =
    let reader = c.args.lines.now.lines.reader in
    let p = held_searched g (goal.at.In-Ok-None g c).After-pass-in-lines in
    let taken = rw c.in-Ok-None.field-0-is at c.in-Ok-None.ensures in
    let s = followed_sent p (TakesAll-written [] (taken reader p.so_far.lines p.so_far.handed).2) in
    let (next, few, went, before) = taken reader s.so_far.lines s.so_far.handed in
    (s, rw is next, few)

pub lines-init : goal.lines-init
lines-init g c = record {
  so_far = rw c.requires.none_done (followed_none c.requires.is_asked refl c.requires.none_ahead c.requires.still_open c.requires.none_numbered (ap (λ (h : LastLines). h.lines) c.requires.none_after));
  limit = ap (λ (h : LastLines). h.limit) c.requires.none_after;
  few_held = rw c.requires.none_ahead none_in_nothing;
  same = none_asked;
}

pub wait-requires : goal.wait-requires
wait-requires g c =
    let held = c.next_held-stretch.ensures in
    let (before, all, d, n) = held.divided in
    record {
      block = before_block d;
      counted = d.many ∙ ap length (sym (before_lines d));
      few = c.lines.invariant.so_far.tracks.few;
      due = asked_due _ c.args.request.now.options.invert_match _ held.none _ (before_counted d);
    }

pub pass-requires : goal.pass-requires
pass-requires g c =
    let (before, all, d, n) = c.next_held-stretch.ensures.divided in
    are_ahead n d.free d.width d.counted

pub returns-then-is_err-clause-given : goal.returns-then-is_err-clause-given
returns-then-is_err-clause-given g c =
    let es = expressions_of c.args.matchers.now in
    let i = c.lines.invariant in
    let held = c.next_held-stretch.ensures in
    let (before, all, d, n) = held.divided in
    let spent = searched_bytes c.args.request.now.options (length es) all (stretch_spent i.same.same_expressions d held.steps) in
    followed_unkept i.so_far all refl i.few_held (handed_with n d.free i.so_far.so_far.handed) spent (sym c.number.ensures)

pub show_line-requires : goal.show_line-requires
show_line-requires g c =
    let (before, all, d, n) = c.next_held-stretch.ensures.divided in
    let (mid, s, same, next, all_spent, reported, some) = at_selected g (goal.at.show_line-requires g c).In-Some in
    let is_number : c.number-in-Some.result + c.next_held-stretch.result.count ≡ (passed_state n d.free).number = omega (arith, c.number-in-Some.ensures, d.counted) in
    record { few = s.tracks.few; held = held_few s c.in-Some.text.now next is_number }

pub returns-in_err-show_line-clause-given : goal.returns-in_err-show_line-clause-given
returns-in_err-show_line-clause-given g c =
    let (before, all, d, n) = c.next_held-stretch.ensures.divided in
    let (mid, s, same, next, all_spent, reported, some) = at_selected g (goal.at.returns-in_err-show_line-clause-given g c).In-Some in
    let is_number : c.number-in-Some.result + c.next_held-stretch.result.count ≡ (passed_state n d.free).number = omega (arith, c.number-in-Some.ensures, d.counted) in
    rw (is_err _ c.from_residual.ensures.1) (followed_stops s _ next is_number reported all_spent
    (few_after (terminated all) n.rest (rw n.ahead at c.lines.invariant.few_held)) _ _ refl _ c.in_err-show_line.ensures)

pub lines-preserved-in-Some : goal.lines-preserved-in-Some
lines-preserved-in-Some g c =
    let i = c.lines.invariant in
    let (before, all, d, n) = c.next_held-stretch.ensures.divided in
    let waits = rw (before_lines d) at (if_kept _ c.is_err.ensures.value c.if-is_err.false c.wait.ensures) in
    let line = c.in-Some.text.now in
    let (mid, s, same, next, all_spent, reported, some) = at_selected g (goal.at.lines-preserved-in-Some g c).In-Some in
    let now = c.pass.new.self in
    let next = rw same at (handed_passed n d.free i.so_far.so_far.handed d.width c.pass.ensures.passed) in
    let is_number : c.number-in-Some.result + c.next_held-stretch.result.count ≡ now.number = omega (arith, c.number-in-Some.ensures, d.counted, next.counted, i.so_far.so_far.handed.counted, ap length same, length-append i.so_far.so_far.lines all) in
    let shown = c.in_ok-show_line.ensures in
    let limit = waiting_limit waits i.limit in
    record {
      so_far = rw shown.goes_on (followed_line s line next is_number reported all_spent shown.wrote c.count_found-selected.ensures (shown.holds ∙ ap (λ n. if (next_shown c.wait.new.surroundings.progress true).itself then [] else last_of n (c.wait.new.surroundings.recent.lines ++ line ∷ [])) limit));
      limit = shown.same_limit ∙ limit;
      few_held = few_after (take c.next_held-stretch.result.bytes c.lines.lines.lines.ahead) now.lines.ahead (rw c.pass.ensures.ahead at i.few_held);
      same = same_over c.next_held-stretch.ensures.same i.same;
    }

pub lines-smaller-in-Some : goal.lines-smaller-in-Some
lines-smaller-in-Some g c =
    let i = c.lines.invariant in
    let (before, all, d, n) = c.next_held-stretch.ensures.divided in
    let (mid, s, same, next, all_spent, reported, some) = at_selected g (goal.at.lines-smaller-in-Some g c).In-Some in
    let now = c.pass.new.self in
    let next = rw same at (handed_passed n d.free i.so_far.so_far.handed d.width c.pass.ensures.passed) in
    let is_number : c.number-in-Some.result + c.next_held-stretch.result.count ≡ now.number = omega (arith, c.number-in-Some.ensures, d.counted, next.counted, i.so_far.so_far.handed.counted, ap length same, length-append i.so_far.so_far.lines all) in
    omega (arith, is_number, some, next.few, next.counted, c.number-in-Some.ensures)

pub count_found-selected-requires : goal.count_found-selected-requires
count_found-selected-requires g c =
    let (mid, s, same, next, all_spent, reported, some) = at_selected g (goal.at.count_found-selected-requires g c).In-Some in
    may_count s.so_far c.in-Some.text.now next

pub pass-requires-in-lines : goal.pass-requires-in-lines
pass-requires-in-lines g c =
    let (before, all, d, n) = c.next_held-stretch.ensures.divided in
    are_ahead n d.free d.width d.counted

pub show_line-requires-in-lines-clause-held : goal.show_line-requires-in-lines-clause-held
show_line-requires-in-lines-clause-held g c =
    let (s, next, few) = next_line g (goal.at.show_line-requires-in-lines-clause-held g c).In-Ok-None c.line-text.ensures in
    held_few s c.line-text.result.now next c.number-number.ensures

pub returns-in_err-show_line-2-clause-given : goal.returns-in_err-show_line-2-clause-given
returns-in_err-show_line-2-clause-given g c =
    let (s, next, few) = next_line g (goal.at.returns-in_err-show_line-2-clause-given g c).In-Ok-None c.line-text.ensures in
    let line = c.line-text.result.now in
    let es = expressions_of c.args.matchers.now in
    let i = c.lines.invariant in
    let held = c.next_held-stretch.ensures in
    let same = (same_over held.same i.same).same_expressions in
    let reported = rw same at c.is_selected-found.ensures.reported in
    let once = searched_once c.args.request.now.options (length es) line (rw same at c.is_selected-found.ensures.steps) in
    let all_spent = searched_one_line c.args.request.now.options (length es) s.so_far.lines line s.so_far.steps once in
    rw (is_err _ c.from_residual-in_err-show_line-2.ensures.1) (followed_stops s _ next c.number-number.ensures reported all_spent
    few _ _ refl _ c.in_err-show_line-2.ensures)

pub count_found-selected-requires-in-lines : goal.count_found-selected-requires-in-lines
count_found-selected-requires-in-lines g c =
    let (s, next, few) = next_line g (goal.at.count_found-selected-requires-in-lines g c).In-Ok-None c.line-text.ensures in
    may_count s.so_far c.line-text.result.now next

pub lines-smaller : goal.lines-smaller
lines-smaller g c =
    let (s, next, few) = next_line g (goal.at.lines-smaller g c).In-Ok-None c.line-text.ensures in
    let i = c.lines.invariant in
    let (before, all, d, n) = c.next_held-stretch.ensures.divided in
    let passed = handed_passed n d.free i.so_far.so_far.handed d.width c.pass-in-lines.ensures.passed in
    omega (arith, fewer_left s.so_far c.line-text.result.now next, passed.counted, i.so_far.so_far.handed.counted, length-append i.so_far.so_far.lines all)

pub lines-preserved : goal.lines-preserved
lines-preserved g c =
    let (s, next, few) = next_line g (goal.at.lines-preserved g c).In-Ok-None c.line-text.ensures in
    let line = c.line-text.result.now in
    let es = expressions_of c.args.matchers.now in
    let i = c.lines.invariant in
    let held = c.next_held-stretch.ensures in
    let same = (same_over held.same i.same).same_expressions in
    let reported = rw same at c.is_selected-found.ensures.reported in
    let once = searched_once c.args.request.now.options (length es) line (rw same at c.is_selected-found.ensures.steps) in
    let all_spent = searched_one_line c.args.request.now.options (length es) s.so_far.lines line s.so_far.steps once in
    let shown = c.in_ok-show_line-2.ensures in
    let (before, all, d, n) = held.divided in
    let waits = rw (before_lines d) at (if_kept _ c.is_err.ensures.value c.if-is_err.false c.wait.ensures) in
    let limit = waiting_limit waits i.limit in
    record {
      so_far = rw shown.goes_on (followed_line s line next c.number-number.ensures reported all_spent shown.wrote c.count_found-selected-in-lines.ensures (shown.holds ∙ ap (λ n. if (next_shown c.wait.new.surroundings.progress c.is_selected-found.result).itself then [] else last_of n (c.wait.new.surroundings.recent.lines ++ line ∷ [])) limit));
      limit = shown.same_limit ∙ limit;
      few_held = few;
      same = same_over c.is_selected-found.ensures.same (same_over held.same i.same);
    }

pub returns-in-Ok-Some-clause-given : goal.returns-in-Ok-Some-clause-given
returns-in-Ok-Some-clause-given g c =
    let reader = c.args.lines.now.lines.reader in
    let p = held_searched g (goal.at.returns-in-Ok-Some-clause-given g c).After-pass-in-lines in
    ends_as g.W.CountedWrite.contents g.W.CountedWrite.failures c.lines.out p.so_far c.take_next.new.lines _ _ ((rw c.in-Ok-Some.field-0-is at c.in-Ok-Some.ensures) reader p.so_far.lines p.so_far.handed)

pub returns-in-Err-clause-given : goal.returns-in-Err-clause-given
returns-in-Err-clause-given g c =
    let reader = c.args.lines.now.lines.reader in
    let p = held_searched g (goal.at.returns-in-Err-clause-given g c).After-pass-in-lines in
    stops_as g.W.CountedWrite.contents g.W.CountedWrite.failures c.lines.out p.so_far c.take_next.new.lines c.take_next.new.out c.in-Err.fault (c.in-Err.ensures reader p.so_far.lines p.so_far.handed)
