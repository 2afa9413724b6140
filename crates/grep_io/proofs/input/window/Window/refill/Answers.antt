use Rattle.grep_io.proofs.{Prelude.{◌≡◌, ◌≤◌, ◌++◌, length, slice_range, refl, ◌∙◌, length-take, rules, arith, Text}, lemmas.{WindowLemmas.{one_line, at_failure}, WindowBlocks.{fresh_ended, fresh_cut_off}}}
use Rattle.grep_io.proofs.input.window.Window.refill.Goals as goal

pub invariant_of-self-in-Some : goal.invariant_of-self-in-Some
invariant_of-self-in-Some g c =
    let buffer = c.pull_over.new.buffer.items in
    let last = c.lines_end-self-inside.result in
    let count = c.in-Some.count in
    let full : length buffer ≡ 65536 = search rules in
    let bound : count ≤ length buffer = search rules in
    let same : c.deref-in-Some.result.now ≡ buffer = c.deref-in-Some.ensures.value in
    let inside = rw same at c.lines_end-self-inside.ensures.within in
    let ended = rw same at c.lines_end-self-inside.ensures.ended in
    let cut_off = rw same at c.lines_end-self-inside.ensures.cut_off in
    let before_end : last ≤ count = omega (arith, length-take count buffer) in
    record {
      full = full;
      ordered = omega arith;
      before_end = before_end;
      within = omega arith;
      ended = fresh_ended buffer last count before_end ended;
      cut_off = fresh_cut_off buffer last count before_end cut_off;
      shown_fits = tt;
      unfinished = search rules;
    }

pub returns-in_err-extend_from_slice-clause-err : goal.returns-in_err-extend_from_slice-clause-err
returns-in_err-extend_from_slice-clause-err g c =
    let a = c.self.inside in
    let same : c.extend_from_slice.new.self.items ++ slice_range a.buffer.items a.start a.end ≡ c.args.self.now.ahead = cc (◌∙◌ {A = Text} c.in_err-extend_from_slice.ensures.items c.empty_where_shown.ensures, c.self.view_is) in
    at_failure c.from_residual.result _ (same, refl)

pub returns-in_err-extend_from_slice-clause-err_few : goal.returns-in_err-extend_from_slice-clause-err_few
returns-in_err-extend_from_slice-clause-err_few g c =
    let a = c.self.inside in
    let same : c.extend_from_slice.new.self.items ++ slice_range a.buffer.items a.start a.end ≡ c.args.self.now.ahead = cc (◌∙◌ {A = Text} c.in_err-extend_from_slice.ensures.items c.empty_where_shown.ensures, c.self.view_is) in
    at_failure c.from_residual.result _ (rw same (one_line c.args.self.now.ahead c.requires.no_line))
