use Rattle.{grep_core.proofs.{Prelude.{◌<◌, ◌≤◌, length, refl, ◌∙◌, arith}, lemmas.{SourceLaws.{gives_none, gives_both}, RunLaws.{run_none, run_further, run_ends_at, run_given_up, run_ends}}}, re_search.proofs.lemmas.KeptMatchers.{none_asked, same_over}}
use Rattle.grep_core.proofs.search.run.search_all.Goals as goal

pub loop-k-init : goal.loop-k-init
loop-k-init g c = record { so_far = run_none _ (gives_none g.S.Sources.returned_readers c.args.sources.now) _; listed = refl; within = omega arith; in_order = c.requires.in_order; same_loan = refl; same = none_asked }

pub loop-k-preserved : goal.loop-k-preserved
loop-k-preserved g c =
    let sources = g.S.Sources.listed c.args.sources.now in
    let s = c.loop-k.invariant in
    let known = s.same.same_expressions in
    let given = rw (known, s.listed) at c.in-Ok.ensures.given in
    let join = gives_both g.S.Sources.returned_readers c.args.sources.now c.loop-k.sources c.search_source.new.sources in
    let inside : c.loop-k.k < length sources = omega (arith, c.loop-k-test.true, c.count-count.ensures) in
    record {
      so_far =
          run_further sources c.loop-k.k inside _ _ join _ s.so_far
          given c.has_selected.ensures c.if-request-has_selected.false c.has_selected-some.ensures c.is_fault-faulty.ensures;
      listed = c.in-Ok.ensures.listed ∙ s.listed;
      within = omega (arith, inside);
      in_order = c.in-Ok.ensures.next;
      same_loan = c.in-Ok.ensures.same_loan ∙ s.same_loan;
      same = same_over c.in-Ok.ensures.same s.same;
    }

pub returns-then-request-has_selected-clause-run : goal.returns-then-request-has_selected-clause-run
returns-then-request-has_selected-clause-run g c =
    let sources = g.S.Sources.listed c.args.sources.now in
    let s = c.loop-k.invariant in
    let known = s.same.same_expressions in
    let given = rw (known, s.listed) at c.in-Ok.ensures.given in
    let join = gives_both g.S.Sources.returned_readers c.args.sources.now c.loop-k.sources c.search_source.new.sources in
    let inside : c.loop-k.k < length sources = omega (arith, c.loop-k-test.true, c.count-count.ensures) in
    run_ends_at sources c.loop-k.k inside _ _ join _ s.so_far refl c.count-count.ensures
    given c.has_selected.ensures c.if-request-has_selected.true

pub returns-in-Err-clause-run : goal.returns-in-Err-clause-run
returns-in-Err-clause-run g c =
    let sources = g.S.Sources.listed c.args.sources.now in
    let s = c.loop-k.invariant in
    let known = s.same.same_expressions in
    let join = gives_both g.S.Sources.returned_readers c.args.sources.now c.loop-k.sources c.search_source.new.sources in
    let inside : c.loop-k.k < length sources = omega (arith, c.loop-k-test.true, c.count-count.ensures) in
    run_given_up sources c.loop-k.k inside _ _ join _ s.so_far refl c.count-count.ensures c.in-Err.fault known s.listed c.in-Err.ensures.given

pub returns-clause-run : goal.returns-clause-run
returns-clause-run g c =
    let sources = g.S.Sources.listed c.args.sources.now in
    let s = c.loop-k.invariant in
    let over : length sources ≤ c.loop-k.k = omega (arith, c.loop-k-test.false, c.count-count.ensures) in
    run_ends _ _ _ _ _ refl c.count-count.ensures over s.so_far c.status_of.ensures
