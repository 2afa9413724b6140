use Rattle.{grep_io.proofs.{Prelude.{◌≡◌, ◌-◌, ◌≤◌, ◌++◌, length, length-take, drop, slice_range, refl, ap, sym, ◌∙◌, arith, Text, Held, waiting}, lemmas.{WindowBlocks.{byte_at, newline_before}, WindowLemmas.{at_failure, one_line_and_few, ahead_at_newline, line_has_no_newline, below_range}}}, re_trees.proofs.lemmas.LinesLaws.none_in_empty, re_runs.proofs.lemmas.Ranges.at_range}
use Rattle.grep_io.proofs.input.window.Window.next_line.Goals as goal

pub returns-clause-more : goal.returns-clause-more
returns-clause-more c =
    let a = c.self.inside in
    let found = rw c.deref.ensures.value at c.in-Some.ensures.some in
    let line = rw (c.deref-2.ensures.value, c.empty_where_shown.ensures) at c.in_ok-self-inside.ensures.line in
    let within = below_range a.buffer.items a.start a.end c.in-Some.length found.0 in
    ap (λ (h : Held). h.ahead) (sym c.self.view_is) ∙ ahead_at_newline a.buffer.items (waiting a.shown a.spill.items) a.start a.end c.in-Some.length within found.1 line c.in_ok-self-inside.ensures.none_waiting

pub returns-clause-no_newline : goal.returns-clause-no_newline
returns-clause-no_newline c =
    let a = c.self.inside in
    let found = rw c.deref.ensures.value at c.in-Some.ensures.some in
    let front = rw c.deref.ensures.value at c.in-Some.ensures.none in
    let line = rw (c.deref-2.ensures.value, c.empty_where_shown.ensures) at c.in_ok-self-inside.ensures.line in
    let within = below_range a.buffer.items a.start a.end c.in-Some.length found.0 in
    line_has_no_newline a.buffer.items (waiting a.shown a.spill.items) a.start a.end c.in-Some.length (omega arith) c.self.invariant.unfinished front line

pub invariant_of-self-2 : goal.invariant_of-self-2
invariant_of-self-2 c =
    let a = c.self.inside in
    let i = c.self.invariant in
    let found = rw c.deref.ensures.value at c.in-Some.ensures.some in
    let below = below_range a.buffer.items a.start a.end c.in-Some.length found.0 in
    let inside : a.end ≤ length a.buffer.items = omega arith in
    let here = sym (at_range a.buffer.items a.start a.end c.in-Some.length below) ∙ byte_at c.in-Some.length found.0 found.1 in
    record {
      full = i.full;
      ordered = newline_before a.buffer.items a.start a.last a.end c.in-Some.length inside i.cut_off below here;
      before_end = i.before_end;
      within = i.within;
      ended = λ later. i.ended (omega arith);
      cut_off = i.cut_off;
      shown_fits = c.in_ok-self-inside.ensures.fits;
      unfinished = rw c.in_ok-self-inside.ensures.none_waiting none_in_empty;
    }

pub returns-in_err-self-inside-clause-err : goal.returns-in_err-self-inside-clause-err
returns-in_err-self-inside-clause-err c =
    let a = c.self.inside in
    let same : c.show.new.spill.items ++ slice_range a.buffer.items a.start a.end ≡ c.args.self.now.ahead = ap (λ l. l ++ slice_range a.buffer.items a.start a.end) (◌∙◌ {A = Text} c.in_err-self-inside.ensures.err c.empty_where_shown.ensures) ∙ ap (λ (h : Held). h.ahead) c.self.view_is in
    at_failure c.from_residual.result _ (same, refl)

pub returns-in_err-self-inside-clause-err_few : goal.returns-in_err-self-inside-clause-err_few
returns-in_err-self-inside-clause-err_few c =
    let a = c.self.inside in
    let before = waiting a.shown a.spill.items in
    let more = slice_range a.buffer.items a.start a.end in
    let same = ◌∙◌ {A = Text} c.in_err-self-inside.ensures.err c.empty_where_shown.ensures in
    at_failure c.from_residual.result _ (rw same (one_line_and_few before more c.self.invariant.unfinished (omega (arith, length-take (a.end - a.start) (drop a.start a.buffer.items)))))
