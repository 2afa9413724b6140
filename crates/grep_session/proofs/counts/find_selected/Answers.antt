use Rattle.grep_session.proofs.{Prelude.{◌<◌, length, get_or, arith, get_or_default, all_of, no_line}, lemmas.CountLaws.{none_selected, one_selected}}
use Rattle.grep_session.proofs.counts.find_selected.Goals as goal

pub returns : goal.returns
returns c =
    let lines = all_of c.args.lines.now in
    record {
      after = c.next_line.ensures.after;
      within = c.next_line.ensures.within;
      passed = λ i d low high.
          let inside : i < length lines = omega arith in
          rw (get_or_default lines i no_line d inside) at (none_selected c.args.options.now (get_or lines i no_line) (c.next_line.ensures.passed i low high));
      hit = λ d inside. rw (get_or_default lines c.next_line.result no_line d inside) at (one_selected c.args.options.now (get_or lines c.next_line.result no_line) (c.next_line.ensures.there inside));
    }
