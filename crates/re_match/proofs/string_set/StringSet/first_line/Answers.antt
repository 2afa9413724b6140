use Rattle.{re_match.proofs.{Prelude.{None, Some, refl, inl, inr, sym, ◌∙◌, false≢true, keys}, lemmas.{SetAround.set_around, SweptLines.stops_before, SetMatches.empty_matches, SetBlocks.{passes_set_block, passes_set_front}}}, re_trees.proofs.lemmas.LinesLaws.AreLines-lines_of, re_strings.proofs.lemmas.KeyLaws.lines_of-keys}
use Rattle.re_match.proofs.string_set.StringSet.first_line.Goals as goal

pub returns-then-self-clause-found : goal.returns-then-self-clause-found
returns-then-self-clause-found c end cut = rw (← c.self.view_is) (empty_matches _ _ (c.self.invariant.2.0 c.if-self.true))

pub returns-then-self-clause-looked : goal.returns-then-self-clause-looked
returns-then-self-clause-looked c = rw (← c.self.view_is) (inl (c.self.invariant.2.0 c.if-self.true, refl))

pub returns-in_default-clause-passes : goal.returns-in_default-clause-passes
returns-in_default-clause-passes c = rw (c.to-in_default.ensures, ← c.self.view_is) (passes_set_block _ (λ s. false≢true (sym c.if-self.false ∙ c.self.invariant.2.1 s)) _ c.requires (c.in_default.ensures.ends _ c.self.invariant.1.1))

pub returns-in_default-clause-looked : goal.returns-in_default-clause-looked
returns-in_default-clause-looked c = rw (← c.self.view_is) (inr (None, c.in_default.ensures.ends _ c.self.invariant.1.1, c.in_default.ensures.counted))

pub returns-clause-passes : goal.returns-clause-passes
returns-clause-passes c =
    rw (c.to-2.ensures, ← c.self.view_is) (passes_set_front _ (λ s. false≢true (sym c.if-self.false ∙ c.self.invariant.2.1 s)) _ _ _ c.in-Some.ensures.within.1 (c.in-Some.ensures.ends _ c.self.invariant.1.1) c.line_start.ensures.lines)

pub returns-clause-stops : goal.returns-clause-stops
returns-clause-stops c = rw c.to-2.ensures (λ e whole. stops_before e whole c.args.block.now c.line_start.result c.in-Some.end c.in-Some.ensures.within.1 c.line_start.ensures.lines c.line_start.ensures.last)

pub returns-clause-found : goal.returns-clause-found
returns-clause-found c =
    rw (c.to-2.ensures, ← c.self.view_is) (λ end. set_around _ (rw (lines_of-keys c.self.inside.table.fold c.self.inside.texts.items) at (AreLines-lines_of (keys c.self.inside.table.fold c.self.inside.texts.items)).0) c.args.block.now c.line_start.result c.in-Some.end c.in-Some.ensures.within.1 c.line_start.ensures.lines end (c.in-Some.ensures.ends _ c.self.invariant.1.1) c.line_start.ensures.last)

pub returns-clause-looked : goal.returns-clause-looked
returns-clause-looked c = rw (← c.self.view_is) (inr (Some c.in-Some.end, c.in-Some.ensures.ends _ c.self.invariant.1.1, c.in-Some.ensures.counted))
