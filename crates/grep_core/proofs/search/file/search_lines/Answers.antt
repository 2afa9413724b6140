use Rattle.{grep_core.proofs.{Prelude.{None, Ok, NextTaken, ◌∙◌, [], take, refl, sym, arith, writer}, lemmas.{WrittenLemmas.TakesAll-written, FileOutput.rows_none, PassedLines.{are_ahead, handed_with, handed_passed}, LinesLemmas.{SearchedOn, written_plain, searched_none, searched_among, leaves_among, stops_in_lines, stops_at, is_next, numbers_further, numbers_on, searched_sent, may_count, fewer_left, searched_line, goes_on, goes_on_with, leaves_with, leaves_at, ends_as, stops_as}, OneLineLemmas.is_err}, search.file.search_lines.Goals.{Else-held-early, In-Ok-None}}, grep_io.proofs.lemmas.WindowLemmas.{none_in_nothing, few_after}, re_search.proofs.lemmas.KeptMatchers.{none_asked, same_over, still_alike}}
use Rattle.grep_core.proofs.search.file.search_lines.Given as given
use Rattle.grep_core.proofs.search.file.search_lines.Goals as goal

-- the lines that are held and those before them were searched, and the search goes on
among : (g : given.Over) (c : Else-held-early g) → SearchedOn c.lines.invariant.so_far c.pass.new.self (writer g.W.CountedWrite.contents g.W.CountedWrite.failures c.write_held.new.out) c.write_held.new.meter c.saturating_add-selected.result
among g c =
    let i = c.lines.invariant in
    let h = rw i.same.same_expressions at c.in_ok-held.ensures.ok in
    let none = goes_on_with c.in_ok-held.held.found i.is_early c.if-held-early.false in
    searched_among i.so_far h.all (handed_passed h.next h.free i.so_far.handed h.width c.pass.ensures.passed) c.requires.plain h.spent h.took c.saturating_add-selected.ensures none

-- buffered output was sent, and one more line was handed out
next_line : (g : given.Over) (c : In-Ok-None g) → (s : SearchedOn c.lines.invariant.so_far c.pass.new.self (writer g.W.CountedWrite.contents g.W.CountedWrite.failures c.take_next.new.out) c.write_held.new.meter c.saturating_add-selected.result)
    × NextTaken g.R.CountedRead.remaining g.R.CountedRead.failures g.W.CountedWrite.contents g.W.CountedWrite.failures c.args.lines.now.lines.reader s.lines c.take_next.new.lines c.write_held.new.out c.take_next.new.out (Ok None)
next_line g c =
    let p = among g (goal.at.In-Ok-None g c).Else-held-early in
    let taken = (rw c.in-Ok-None.field-0-is at c.in-Ok-None.ensures) c.args.lines.now.lines.reader p.lines p.handed in
    (searched_sent p (TakesAll-written [] taken.2), taken)

pub lines-init : goal.lines-init
lines-init g c = record {
  so_far = searched_none (written_plain _ _ _ _ _ _ c.requires.plain [] [] (rows_none _ _ _ _ _)) refl c.requires.none_ahead c.requires.still_open c.requires.none_numbered;
  same = none_asked;
  few_held = rw c.requires.none_ahead none_in_nothing;
  is_early = c.leaves_early-early.ensures;
}

pub write_held-requires : goal.write_held-requires
write_held-requires g c = record { alike = still_alike c.lines.invariant.same c.requires.alike; bare = c.writes_bare_lines-bare.ensures }

pub pass-requires : goal.pass-requires
pass-requires g c =
    let h = c.in_ok-held.ensures.ok in
    are_ahead h.next h.free h.width h.counted

pub returns-in_err-held-clause-given : goal.returns-in_err-held-clause-given
returns-in_err-held-clause-given g c =
    let i = c.lines.invariant in
    let h = rw i.same.same_expressions at c.in_err-held.ensures.err in
    rw (is_err c.from_residual.result c.from_residual.ensures.1)
    (stops_in_lines i.so_far h.all (handed_with h.next h.free i.so_far.handed) c.requires.plain h.spent refl i.few_held _ _ h.stops)

pub returns-then-held-early-clause-given : goal.returns-then-held-early-clause-given
returns-then-held-early-clause-given g c =
    let i = c.lines.invariant in
    let h = rw i.same.same_expressions at c.in_ok-held.ensures.ok in
    let (some, early) = leaves_with c.in_ok-held.held.found c.leaves_early-early.result c.if-held-early.true in
    leaves_among i.so_far h.all (handed_passed h.next h.free i.so_far.handed h.width c.pass.ensures.passed) c.requires.plain h.spent h.took c.saturating_add-selected.ensures some (sym i.is_early ∙ early)

pub lines-preserved-then-held : goal.lines-preserved-then-held
lines-preserved-then-held g c =
    let i = c.lines.invariant in
    record {
      so_far = among g (goal.at.lines-preserved-then-held g c).Else-held-early;
      same = same_over c.write_held.ensures.same i.same;
      few_held = few_after (take c.in_ok-held.held.bytes c.lines.lines.lines.ahead) c.pass.new.self.lines.ahead (rw c.pass.ensures.ahead at i.few_held);
      is_early = i.is_early;
    }

pub lines-smaller-then-held : goal.lines-smaller-then-held
lines-smaller-then-held g c =
    let i = c.lines.invariant in
    let h = c.in_ok-held.ensures.ok in
    let next = handed_passed h.next h.free i.so_far.handed h.width c.pass.ensures.passed in
    omega (arith, h.some c.if-held.true, numbers_on i.so_far _ next, next.few, next.counted)

pub search_line-requires : goal.search_line-requires
search_line-requires g c =
    let (s, taken) = next_line g (goal.at.search_line-requires g c).In-Ok-None in
    record {
      alike = still_alike (same_over c.write_held.ensures.same c.lines.invariant.same) c.requires.alike;
      first = omega (arith, c.number-number.ensures, is_next s _ taken.0);
    }

pub count_found-selected-requires : goal.count_found-selected-requires
count_found-selected-requires g c =
    let (s, taken) = next_line g (goal.at.count_found-selected-requires g c).In-Ok-None in
    may_count s _ taken.0

pub lines-smaller : goal.lines-smaller
lines-smaller g c =
    let i = c.lines.invariant in
    let h = c.in_ok-held.ensures.ok in
    let passed = handed_passed h.next h.free i.so_far.handed h.width c.pass.ensures.passed in
    let (s, taken) = next_line g (goal.at.lines-smaller g c).In-Ok-None in
    omega (arith, numbers_further i.so_far h.all passed, fewer_left s _ taken.0)

pub lines-preserved : goal.lines-preserved
lines-preserved g c =
    let i = c.lines.invariant in
    let (s, taken) = next_line g (goal.at.lines-preserved g c).In-Ok-None in
    let asked = same_over c.write_held.ensures.same i.same in
    let took_line = rw asked.same_expressions at c.in_ok-found.ensures.ok in
    let spent_line = rw asked.same_expressions at c.in_ok-found.ensures.steps in
    let found = c.in_ok-found.found in
    record {
      so_far =
          searched_line s _ taken.0 c.line-line.ensures c.number-number.ensures c.requires.plain took_line spent_line c.count_found-selected.ensures (goes_on found _ _ i.is_early c.if-found-early.false);
      same = same_over c.in_ok-found.ensures.same asked;
      few_held = taken.1;
      is_early = i.is_early;
    }

pub returns-then-found-early-clause-given : goal.returns-then-found-early-clause-given
returns-then-found-early-clause-given g c =
    let i = c.lines.invariant in
    let (s, taken) = next_line g (goal.at.returns-then-found-early-clause-given g c).In-Ok-None in
    let asked = same_over c.write_held.ensures.same i.same in
    let took_line = rw asked.same_expressions at c.in_ok-found.ensures.ok in
    let spent_line = rw asked.same_expressions at c.in_ok-found.ensures.steps in
    leaves_at s _ taken.0 c.line-line.ensures c.number-number.ensures c.requires.plain took_line spent_line c.count_found-selected.ensures i.is_early c.if-found-early.true

pub returns-in_err-found-clause-given : goal.returns-in_err-found-clause-given
returns-in_err-found-clause-given g c =
    let w = c.args.request.now in
    let i = c.lines.invariant in
    let (s, taken) = next_line g (goal.at.returns-in_err-found-clause-given g c).In-Ok-None in
    let asked = same_over c.write_held.ensures.same i.same in
    let broke_line = rw asked.same_expressions at c.in_err-found.ensures.err in
    let spent_line = rw asked.same_expressions at c.in_err-found.ensures.steps in
    rw (is_err c.from_residual-in_err-found.result c.from_residual-in_err-found.ensures.1)
    (stops_at s _ taken.0 c.line-line.ensures c.number-number.ensures c.requires.plain (taken.3 w.name.now) _ _ broke_line spent_line)

pub returns-in-Ok-Some-clause-given : goal.returns-in-Ok-Some-clause-given
returns-in-Ok-Some-clause-given g c =
    let reader = c.args.lines.now.lines.reader in
    let p = among g (goal.at.returns-in-Ok-Some-clause-given g c).Else-held-early in
    ends_as g.W.CountedWrite.contents g.W.CountedWrite.failures c.write_held.new.out p c.take_next.new.lines _ _ ((rw c.in-Ok-Some.field-0-is at c.in-Ok-Some.ensures) reader p.lines p.handed)

pub returns-in-Err-clause-given : goal.returns-in-Err-clause-given
returns-in-Err-clause-given g c =
    let reader = c.args.lines.now.lines.reader in
    let p = among g (goal.at.returns-in-Err-clause-given g c).Else-held-early in
    stops_as g.W.CountedWrite.contents g.W.CountedWrite.failures c.write_held.new.out p _ _ _ (c.in-Err.ensures reader p.lines p.handed)
