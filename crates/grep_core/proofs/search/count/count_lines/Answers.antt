use Rattle.{grep_core.proofs.{Prelude.{None, Ok, NextTaken, [], length, refl, arith, lines_of, sought_of, IsSought, writer, expressions_of}, lemmas.{WrittenLemmas.TakesAll-written, FileOutput.rows_none, CostLaws.searched_once, OneLineLemmas.line_only_counted, CountedLines.many_within, LinesLemmas.{SearchedOn, counts_plain, counts_late, written_plain, searched_none, searched_counted, counted_further, searched_sent, may_count, fewer_left, searched_line, ends_as, stops_as}}, search.count.count_lines.Goals.{After-saturating_add-selected, In-Ok-None}}, re_search.proofs.lemmas.KeptMatchers.{none_asked, same_over, still_alike}}
use Rattle.grep_core.proofs.search.count.count_lines.Given as given
use Rattle.grep_core.proofs.search.count.count_lines.Goals as goal

-- the lines that are held and those before them were searched
counted : (g : given.Over) (c : After-saturating_add-selected g) → SearchedOn c.lines.invariant.so_far c.pass.new.self (writer g.W.CountedWrite.contents g.W.CountedWrite.failures c.lines.out) c.count_matched-matched.new.meter c.saturating_add-selected.result
counted g c =
    let i = c.lines.invariant in
    let found_in = rw i.same.same_expressions at c.count_matched-matched.ensures.reported in
    let spent_on = rw i.same.same_expressions at c.count_matched-matched.ensures.steps in
    searched_counted c.ready_lines-block.ensures c.pass.ensures.passed i.so_far c.requires.is_asked _ found_in spent_on c.count_selected.ensures c.saturating_add-selected.ensures

-- buffered output was sent, and one more line was handed out
next_line : (g : given.Over) (c : In-Ok-None g) → (s : SearchedOn c.lines.invariant.so_far c.pass.new.self (writer g.W.CountedWrite.contents g.W.CountedWrite.failures c.take_next.new.out) c.count_matched-matched.new.meter c.saturating_add-selected.result)
    × NextTaken g.R.CountedRead.remaining g.R.CountedRead.failures g.W.CountedWrite.contents g.W.CountedWrite.failures c.args.lines.now.lines.reader s.lines c.take_next.new.lines c.lines.out c.take_next.new.out (Ok None)
next_line g c =
    let p = counted g (goal.at.In-Ok-None g c).After-saturating_add-selected in
    let taken = (rw c.in-Ok-None.field-0-is at c.in-Ok-None.ensures) c.args.lines.now.lines.reader p.lines p.handed in
    (searched_sent p (TakesAll-written [] taken.2), taken)

pub lines-init : goal.lines-init
lines-init g c = record {
  so_far = searched_none (written_plain _ _ _ _ _ _ (counts_plain c.args.request.now.options c.requires.is_asked) [] [] (rows_none _ _ _ _ _)) refl c.requires.none_ahead c.requires.still_open c.requires.none_numbered;
  same = none_asked;
}

pub lines-preserved : goal.lines-preserved
lines-preserved g c =
    let w = c.args.request.now in
    let es = expressions_of c.args.matchers.now in
    let i = c.lines.invariant in
    let (s, taken) = next_line g (goal.at.lines-preserved g c).In-Ok-None in
    let kept = same_over c.count_matched-matched.ensures.same_matchers i.same in
    let reported = rw kept.same_expressions at c.is_selected-found.ensures.reported in
    let spent = searched_once w.options (length es) c.line.result.now (rw kept.same_expressions at c.is_selected-found.ensures.steps) in
    record {
      so_far =
          searched_line s _ taken.0 c.line.ensures refl (counts_plain w.options c.requires.is_asked) (line_only_counted _ _ _ _ _ _ _ c.requires.is_asked c.is_selected-found.result reported) spent c.count_found-selected.ensures
          (λ early. absurd (counts_late w.options c.requires.is_asked early));
      same = same_over c.is_selected-found.ensures.same kept;
    }

pub count_found-selected-requires : goal.count_found-selected-requires
count_found-selected-requires g c =
    let (s, taken) = next_line g (goal.at.count_found-selected-requires g c).In-Ok-None in
    may_count s _ taken.0

pub lines-smaller : goal.lines-smaller
lines-smaller g c =
    let i = c.lines.invariant in
    let (s, taken) = next_line g (goal.at.lines-smaller g c).In-Ok-None in
    omega (arith, counted_further c.ready_lines-block.ensures c.pass.ensures.passed i.so_far, fewer_left s _ taken.0)

pub returns-in-Ok-Some-clause-given : goal.returns-in-Ok-Some-clause-given
returns-in-Ok-Some-clause-given g c =
    let p = counted g (goal.at.returns-in-Ok-Some-clause-given g c).After-saturating_add-selected in
    ends_as g.W.CountedWrite.contents g.W.CountedWrite.failures c.lines.out p c.take_next.new.lines _ _ ((rw c.in-Ok-Some.field-0-is at c.in-Ok-Some.ensures) c.args.lines.now.lines.reader p.lines p.handed)

pub returns-in-Err-clause-given : goal.returns-in-Err-clause-given
returns-in-Err-clause-given g c =
    let p = counted g (goal.at.returns-in-Err-clause-given g c).After-saturating_add-selected in
    stops_as g.W.CountedWrite.contents g.W.CountedWrite.failures c.lines.out p _ _ _ (c.in-Err.ensures c.args.lines.now.lines.reader p.lines p.handed)

pub count_matched-matched-requires-clause-block : goal.count_matched-matched-requires-clause-block
count_matched-matched-requires-clause-block g c = c.ready_lines-block.ensures.whole

pub pass-requires : goal.pass-requires
pass-requires g c = (c.ready_lines-block.result.bytes.now, refl, c.ready_lines-block.ensures)

pub count_selected-requires : goal.count_selected-requires
count_selected-requires g c =
    let within = many_within (IsSought (sought_of c.args.request.now.options.line_regexp c.lines.matchers)) (lines_of c.ready_lines-block.result.bytes.now) c.count_matched-matched.result c.count_matched-matched.ensures.reported in
    omega (arith, within, c.ready_lines-block.ensures.counted)

pub is_selected-found-requires : goal.is_selected-found-requires
is_selected-found-requires g c = record { alike = still_alike (same_over c.count_matched-matched.ensures.same_matchers c.lines.invariant.same) c.requires.alike }

pub returns-in-Ok-Some-clause-same : goal.returns-in-Ok-Some-clause-same
returns-in-Ok-Some-clause-same g c = same_over c.count_matched-matched.ensures.same_matchers c.lines.invariant.same

pub returns-in-Err-clause-same : goal.returns-in-Err-clause-same
returns-in-Err-clause-same g c = same_over c.count_matched-matched.ensures.same_matchers c.lines.invariant.same
