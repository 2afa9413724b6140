use Rattle.re_strings.proofs.{Prelude.{◌≡◌, ◌-◌, ◌<◌, inl, inr, length, refl, sym, ◌∙◌, arith, false≢true, cases_lt, length-map, none-some, key, keys}, lemmas.{SetSearch.{stands_at_first, row_read, best_at_first, best_on, best_settled}, SetReached.{begun_on, settled}}}
use Rattle.re_strings.proofs.aho_corasick.AhoCorasick.find_by.Goals as goal

pub places-init : goal.places-init
places-init c =
    let size = length-map c.args.line.now (key c.args.self.now.fold) in
    record {
      after = omega arith;
      within = c.requires.within;
      in_trie = c.requires.table.trie.some;
      stands = λ all t. stands_at_first all c.args.from (keys c.args.self.now.fold c.args.line.now) t.trie.root (omega arith);
      best = λ all t. best_at_first all c.args.from (keys c.args.self.now.fold c.args.line.now);
      begun = λ all t known none. absurd (none-some known none);
      uncounted = refl;
    }

pub returns-then-begins_before-clause-best : goal.returns-then-begins_before-clause-best
returns-then-begins_before-clause-best c = λ all t.
    let size = length-map c.args.line.now (key c.args.self.now.fold) in
    let in_rows : c.pass-beyond.result.1 < length c.args.self.now.depths.items = omega arith in
    let read = row_read c.args.self.now.depths.items c.pass-beyond.result.1 in_rows c.index.ensures in
    let early = c.begins_before.ensures.0 c.if-begins_before.true in
    let stands = c.pass-beyond.ensures.stands all t c.args.from c.places.invariant.after (c.places.invariant.stands all t) in
    rw size at
    (best_settled _ _ _ _ _ _ _
    c.pass-beyond.ensures.on.0 (omega arith) (c.places.invariant.best all t)
    (c.pass-beyond.ensures.between all t c.args.from c.places.invariant.after (c.places.invariant.stands all t)) stands
    (sym read ∙ t.depths c.pass-beyond.result.1 c.pass-beyond.ensures.in_trie)
    (early.0, early.1, (let h = early.2 in omega (arith, c.saturating_sub.ensures))))

pub places-preserved : goal.places-preserved
places-preserved c =
    let size : length (keys c.args.self.now.fold c.args.line.now) ≡ length c.args.line.now = length-map c.args.line.now (key c.args.self.now.fold) in
    let in_depths : c.pass-beyond.result.1 < length c.args.self.now.depths.items = omega arith in
    record {
      after = omega (arith, c.places.invariant.after, c.pass-beyond.ensures.on.0);
      within = c.pass-beyond.ensures.on.1;
      in_trie = c.pass-beyond.ensures.in_trie;
      stands = λ all t. c.pass-beyond.ensures.stands all t c.args.from c.places.invariant.after (c.places.invariant.stands all t);
      best = λ all t.
          best_on all c.args.from (keys c.args.self.now.fold c.args.line.now) c.places.place c.pass-beyond.result.0 c.places.best
          c.pass-beyond.ensures.on.0 (omega arith) (c.places.invariant.best all t)
          (c.pass-beyond.ensures.between all t c.args.from c.places.invariant.after (c.places.invariant.stands all t))
          (c.pass-beyond.ensures.stands all t c.args.from c.places.invariant.after (c.places.invariant.stands all t))
          (c.ending.ensures all t)
          c.better-best.ensures;
      begun = λ all t.
          let deep = row_read c.args.self.now.depths.items c.pass-beyond.result.1 in_depths c.index.ensures in
          begun_on all c.args.from (keys c.args.self.now.fold c.args.line.now) t.trie.root c.places.place c.pass-beyond.result.0 c.places.node c.pass-beyond.result.1 c.ending.result
          c.index.result.now c.places.best c.better-best.result
          c.pass-beyond.ensures.on.0 (omega arith) (c.places.invariant.best all t) (c.places.invariant.begun all t) (c.pass-beyond.ensures.begun all t c.args.from)
          (c.pass-beyond.ensures.stands all t c.args.from c.places.invariant.after (c.places.invariant.stands all t))
          (c.ending.ensures all t)
          (sym deep ∙ t.depths c.pass-beyond.result.1 c.pass-beyond.ensures.in_trie)
          (λ known is.
          elim (cases_lt known.start (c.pass-beyond.result.0 - c.index.result.now)) [
            | inl early ↦ let settled = c.begins_before.ensures.1 (known, is, (omega (arith, c.saturating_sub.ensures))) in absurd (false≢true (sym c.if-begins_before.false ∙ settled))
            | inr late ↦ late
          ])
          c.better-best.ensures;
      uncounted = c.places.invariant.uncounted;
    }

pub returns-then-begins_before-clause-reached : goal.returns-then-begins_before-clause-reached
returns-then-begins_before-clause-reached c =
    let line = keys c.args.self.now.fold c.args.line.now in
    let size = length-map c.args.line.now (key c.args.self.now.fold) in
    let in_rows : c.pass-beyond.result.1 < length c.args.self.now.depths.items = omega arith in
    let read = row_read c.args.self.now.depths.items c.pass-beyond.result.1 in_rows c.index.ensures in
    let early = c.begins_before.ensures.0 c.if-begins_before.true in
    let low = c.places.invariant.after in
    record {
      place = c.pass-beyond.result.0;
      low = omega arith;
      within = c.pass-beyond.ensures.on.1;
      passed = cc (c.add_passed.ensures, c.places.invariant.uncounted);
      over = inr (
        early.0,
        early.1,
        (λ all t.
            let begun = c.places.invariant.begun all t early.0 early.1 in
            settled all c.args.from line c.pass-beyond.result.0 c.pass-beyond.result.1 c.index.result.now early.0.start (omega arith)
            (c.pass-beyond.ensures.begun all t c.args.from begun.0 begun.1) (sym read ∙ t.depths c.pass-beyond.result.1 c.pass-beyond.ensures.in_trie)
            (let h = early.2 in omega (arith, c.saturating_sub.ensures))),
      );
      near = λ all t s found.
          let begun = c.places.invariant.begun all t s found in
          let next = c.pass-beyond.ensures.next begun.0 in
          let last = begun.2 in
          (c.places.node, c.places.invariant.in_trie, omega arith);
    }

pub returns-clause-reached : goal.returns-clause-reached
returns-clause-reached c =
    let within = c.places.invariant.within in
    record {
      place = c.places.place;
      low = c.places.invariant.after;
      within = within;
      passed = cc (c.add_passed-2.ensures, c.places.invariant.uncounted);
      over = inl (omega (arith, c.places-test.false));
      near = λ all t s found. let last = (c.places.invariant.begun all t s found).2 in (c.places.node, c.places.invariant.in_trie, omega arith);
    }

pub returns-clause-best : goal.returns-clause-best
returns-clause-best c = λ all t.
    let last : c.places.place ≡ length c.args.line.now = omega (arith, c.places.invariant.within) in
    rw last at (c.places.invariant.best all t)
