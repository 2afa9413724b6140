use Rattle.{grep_core.proofs.{Prelude.{◌∙◌, refl, sym, arith}, lemmas.{OneLineLemmas.is_err, SearchedBlockLemmas.{bare_if, divided_kept, stretch_spent, line_within}, MatchedLemmas.{block_next, takes_matched, stops_matched}}}, grep_io.proofs.lemmas.PassedLemmas.count_block, re_search.proofs.lemmas.KeptMatchers.{same_sought, still_alike}}
use Rattle.grep_core.proofs.search.held.write_held.Goals as goal

pub write_chosen-requires-clause-count : goal.write_chosen-requires-clause-count
write_chosen-requires-clause-count g c = c.count_newlines-count.ensures ∙ count_block c.ready-block.result.now c.ready-block.ensures.block

pub returns-then-may_number-clause-ok : goal.returns-then-may_number-clause-ok
returns-then-may_number-clause-ok g c =
    let block = c.ready-block.result.now in
    let whole = c.ready-block.ensures.block in
    let (rest, ahead) = c.ready-block.ensures.ahead in
    let next = block_next block rest whole ahead (c.if-may_number.ensures.room refl) c.ready-block.ensures.none_at_end in
    let (matched, chosen, went, found) = c.in_ok-found.ensures.written in
    takes_matched (c.requires.bare c.if-bare.true) whole next c.write_chosen.ensures.steps _ chosen went found (c.count_newlines-count.ensures ∙ count_block block whole)

pub returns-in_err-found-clause-err : goal.returns-in_err-found-clause-err
returns-in_err-found-clause-err g c =
    let block = c.ready-block.result.now in
    let whole = c.ready-block.ensures.block in
    let (rest, ahead) = c.ready-block.ensures.ahead in
    let next = block_next block rest whole ahead (c.if-may_number.ensures.room refl) c.ready-block.ensures.none_at_end in
    let (matched, chosen, stopped, none) = c.in_err-found.ensures.written in
    rw (is_err _ c.from_residual.ensures.1)
    (stops_matched (c.requires.bare c.if-bare.true) whole next c.write_chosen.ensures.steps _ chosen stopped)

pub write_searched-requires : goal.write_searched-requires
write_searched-requires g c =
    let held = c.next_held-stretch.ensures in
    let (before, all, d, n) = held.divided in
    record {
      alike = still_alike held.same c.requires.alike;
      bare = bare_if c.args.request.now.options.invert_match c.args.bare held.none c.requires.bare;
      few = omega (arith, n.few, d.counted, c.number-number.ensures);
    }

pub returns-clause-ok : goal.returns-clause-ok
returns-clause-ok g c =
    let held = c.next_held-stretch.ensures in
    let (before, all, d, n) = held.divided in
    let same = held.same.same_expressions in
    let later = divided_kept (same_sought held.same) d in
    let few = stretch_spent (sym same) d held.steps in
    record {
      all = all;
      free = d.free;
      next = n;
      width = d.width;
      counted = d.counted;
      took = rw (same, c.number-number.ensures) at (c.in_ok-found-2.ensures.ok before all later);
      spent = rw same at (c.write_searched.ensures.steps before all later c.args.meter.now few);
      some = λ goes. line_within d (sym c.is_some.ensures ∙ goes);
    }

pub returns-in_err-found-2-clause-err : goal.returns-in_err-found-2-clause-err
returns-in_err-found-2-clause-err g c =
    let held = c.next_held-stretch.ensures in
    let (before, all, d, n) = held.divided in
    let same = held.same.same_expressions in
    let later = divided_kept (same_sought held.same) d in
    let few = stretch_spent (sym same) d held.steps in
    rw (is_err _ c.from_residual-in_err-found-2.ensures.1)
    (record { all = all; free = d.free; next = n; stops = rw (same, c.number-number.ensures) at (c.in_err-found-2.ensures.err before all later); spent = rw same at (c.write_searched.ensures.steps before all later c.args.meter.now few) })
