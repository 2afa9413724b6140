use Rattle.line_finds.proofs.{Prelude.{◌∙◌, arith}, lemmas.PieceLemmas.{are_of, start_of, end_of}}
use Rattle.line_finds.proofs.pieces.Pieces.start.Goals as goal

pub returns-then-k-len-clause-start : goal.returns-then-k-len-clause-start
returns-then-k-len-clause-start g c = c.index.ensures ∙ start_of (are_of c.self.view_is c.self.invariant) c.args.k c.index.result.now (omega arith)

pub returns-clause-start : goal.returns-clause-start
returns-clause-start g c = c.len-2.ensures ∙ c.self.inside.items.ok.0 ∙ end_of (are_of c.self.view_is c.self.invariant) c.args.k (omega arith)
