use Rattle.{line_chunks.proofs.{Prelude.{arith, ◌∙◌, ap, length, drop, map, take_rest, All-drop, HasNoNewline, lines_of, line_text}, lemmas.EndedLemmas.{rest_is, free}}, re_trees.proofs.lemmas.LinesLaws.lines_of-terminated, line_finds.proofs.lemmas.PieceLemmas.begins_within}
use Rattle.line_chunks.proofs.chunk.Chunk.text_from.Goals as goal

pub slice_bounds-result-count : goal.slice_bounds-result-count
slice_bounds-result-count c = omega (arith, ap length c.all.ensures, begins_within c.self.inside.lines c.args.k)

pub slice_bounds-result-start : goal.slice_bounds-result-start
slice_bounds-result-start c = omega (arith, ap length c.all.ensures, begins_within c.self.inside.lines c.args.k)

pub returns-clause-block : goal.returns-clause-block
returns-clause-block c = (drop c.args.k (map line_text c.args.self.now), All-drop HasNoNewline c.args.k _ (free _ _ c.self.view_is c.self.invariant.0), take_rest c.all.result.now c.start-start.result ∙ (λ j. drop (c.start-start.ensures.start j) (c.all.ensures j)) ∙ rest_is _ _ c.self.view_is c.self.invariant.0 c.args.k)

pub returns-clause-lines : goal.returns-clause-lines
returns-clause-lines c = ap lines_of (take_rest c.all.result.now c.start-start.result ∙ (λ j. drop (c.start-start.ensures.start j) (c.all.ensures j)) ∙ rest_is _ _ c.self.view_is c.self.invariant.0 c.args.k) ∙ lines_of-terminated (drop c.args.k (map line_text c.args.self.now)) (All-drop HasNoNewline c.args.k _ (free _ _ c.self.view_is c.self.invariant.0))
