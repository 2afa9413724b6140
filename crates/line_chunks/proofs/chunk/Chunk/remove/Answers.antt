use Rattle.line_chunks.proofs.{Prelude.{arith, ◌∙◌, ◌++◌, ap, take, drop, map, length-map, bare}, lemmas.{SeenLaws.{as_many, lines_removed, size_removed}, EndedLemmas.{ended_without, bare_without}}}
use Rattle.line_chunks.proofs.chunk.Chunk.remove.Goals as goal

pub remove-requires-2-clause-within : goal.remove-requires-2-clause-within
remove-requires-2-clause-within c = omega (arith, as_many _ _ c.self.view_is)

pub invariant_of-self : goal.invariant_of-self
invariant_of-self c = (ended_without _ c.args.from c.args.to c.remove.ensures c.self.invariant.0, size_removed _ c.self.inside.found c.remove-2.new.self c.args.from c.args.to c.requires.in_order (omega (arith, as_many _ _ c.self.view_is)) c.self.invariant.1 c.remove.ensures c.remove-2.ensures.size)

pub returns : goal.returns
returns c = lines_removed (map bare c.self.inside.lines) c.self.inside.found c.remove-2.new.self c.args.from c.args.to c.requires.in_order (omega (arith, as_many _ _ c.self.view_is, length-map c.self.inside.lines bare)) (bare_without _ c.args.from c.args.to c.remove.ensures) c.remove-2.ensures.before c.remove-2.ensures.after ∙ ap (λ lines. take c.args.from lines ++ drop c.args.to lines) c.self.view_is
