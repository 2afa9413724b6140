use Rattle.{re_match.proofs.{Prelude.refl, lemmas.WalkedLines.{right_of, within_line, walk_stops, walk_adds}}, re_runs.proofs.lemmas.CountedBlocks.newline_follows}
use Rattle.re_match.proofs.cached.Cached.walk.Goals as goal

pub walk_lines-lines-requires-clause-ready : goal.walk_lines-lines-requires-clause-ready
walk_lines-lines-requires-clause-ready c =
    let known = rw (c.in-Some.is, rw (← c.self.view_is) at c.requires.search) at c.self.invariant.4 in
    (right_of c.in-Some.table known (c.if-not-walks.ensures refl), known.0)

pub unreachable-requires : goal.unreachable-requires
unreachable-requires c = newline_follows c.args.block.now c.walk_lines-lines.result.place c.requires.block c.walk_lines-lines.ensures.goes.within c.in_default-line_end.ensures

pub search_on-answer-requires-clause-within : goal.search_on-answer-requires-clause-within
search_on-answer-requires-clause-within c = within_line c.walk_lines-lines.ensures.goes c.in-Some-line_end.ensures

pub returns-clause-passes : goal.returns-clause-passes
returns-clause-passes c = rw (c.to-2.ensures, c.requires.search, ← c.self.view_is) c.walk_lines-lines.ensures.goes.passed

pub returns-clause-stops : goal.returns-clause-stops
returns-clause-stops c =
    let lines = c.walk_lines-lines.ensures in
    rw (c.to-2.ensures, c.requires.search, ← c.self.view_is) (walk_stops lines.goes c.in-Some-line_end.ensures lines.ready.0 refl c.args.meter.now (rw lines.counted at c.search_on-answer.ensures.finishes))

pub returns-clause-steps : goal.returns-clause-steps
returns-clause-steps c =
    let lines = c.walk_lines-lines.ensures in
    rw c.to-2.ensures (walk_adds lines.goes c.in-Some-line_end.ensures lines.ready.0 refl _ (rw lines.counted at c.search_on-answer.ensures.finishes))
