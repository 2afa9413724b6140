use Rattle.{re_match.proofs.Prelude.{◌≡◌, arith, Bool, refl, inl, Text, expression_of, Steps, Cache, IsReadied, Searches, mode_for, cache_in, cache_of, CachedMatcher, SameCached, Mode}, std.proofs.Common.◌*◌, re_steps.{proofs.lemmas.StageLaws.{searches_readied, goes_nowhere}, specs.Working.{Stages.Stage, Rows.ComesTo}}}
use Rattle.re_match.proofs.cached.Cached.searched.Goals as goal

-- the table was made ready, then its rows, and then the line was searched
readied_for : {line : Text} {old now : CachedMatcher} {middle new : Cache} {mode : Mode} {before after : Steps} {answer : Bool} → SameCached old now → IsReadied old.cache now.cache → mode ≡ mode_for now.whole → IsReadied now.cache middle
    → Searches (expression_of now.tree) mode line middle new before after answer → Searches (expression_of old.tree) (mode_for old.whole) line old.cache new before after answer
readied_for {old = old} {now = now} same first is second s = searches_readied (searches_readied (rw (← same.same_tree, ← same.same_whole, ← is) s) now.cache second) old.cache first

pub returns-in_default-clause-searches : goal.returns-in_default-clause-searches
returns-in_default-clause-searches c =
    let cache = cache_in c.self.inside.table in
    readied_for {middle = cache} c.ready_table.ensures.same c.ready_table.ensures.readied c.mode-mode.ensures
    (rw (← c.self.view_is) (inl refl)) (rw (← c.self.view_is) (c.search.ensures.searches cache (rw c.in_default.is refl)))

pub returns-then-not-is_ready-clause-searches : goal.returns-then-not-is_ready-clause-searches
returns-then-not-is_ready-clause-searches c =
    let now = cache_of c.is_ready.new.self in
    readied_for {middle = now} c.ready_table.ensures.same c.ready_table.ensures.readied c.mode-mode.ensures
    (rw (← c.self.view_is, c.in-Some.is) c.is_ready.ensures.readied) (rw (← c.self.view_is) (c.search-then-not-is_ready.ensures.searches now (c.if-not-is_ready.ensures.blank refl).entries))

pub search_on-requires-clause-row : goal.search_on-requires-clause-row
search_on-requires-clause-row c =
    let right = c.if-not-is_ready.ensures.right refl in
    rw c.first_spot-from.ensures (right.first.start, record { number = 1; row = refl; is = right.first.is_start })

pub returns-then-is_matched_at_once-clause-searches : goal.returns-then-is_matched_at_once-clause-searches
returns-then-is_matched_at_once-clause-searches c =
    let right = c.if-not-is_ready.ensures.right refl in let now = cache_of c.is_ready.new.self in
    let first : Stage = record { set = right.first.start; cache = now; steps = c.args.meter.now } in
    readied_for {middle = now} c.ready_table.ensures.same c.ready_table.ensures.readied c.mode-mode.ensures (rw (← c.self.view_is, c.in-Some.is) c.is_ready.ensures.readied)
    (rw (← c.self.view_is) (record {
      first = first;
      stands = right.first.stands c.args.line.now;
      cache = inl refl;
      steps = refl;
      finishes = record {
        place = 0;
        within = omega arith;
        set = right.first.start;
        goes = goes_nowhere (expression_of c.self.inside.automaton) c.mode-mode.result c.args.line.now first;
        decides = inl (c.if-is_matched_at_once.ensures.yes right.first.start right.first.is_start refl);
      };
    }))

pub returns-clause-searches : goal.returns-clause-searches
returns-clause-searches c =
    let right = c.if-not-is_ready.ensures.right refl in let e = expression_of c.self.inside.automaton in
    let now = cache_of c.is_ready.new.self in
    let first : Stage = record { set = right.first.start; cache = now; steps = c.args.meter.now } in
    let came : ComesTo e c.mode-mode.result c.args.line.now first now c.args.meter.now 0 (1 * c.is_ready.new.self.stride) =
    record { set = right.first.start; row = record { number = 1; row = refl; is = right.first.is_start }; plain = c.if-is_matched_at_once.ensures.no right.first.start right.first.is_start refl; goes = goes_nowhere e c.mode-mode.result c.args.line.now first } in
    readied_for {middle = now} c.ready_table.ensures.same c.ready_table.ensures.readied c.mode-mode.ensures (rw (← c.self.view_is, c.in-Some.is) c.is_ready.ensures.readied)
    (rw (← c.self.view_is) (record { first = first; stands = right.first.stands c.args.line.now; cache = inl refl; steps = refl; finishes = c.search_on.ensures.finishes first (rw c.first_spot-from.ensures came) }))
