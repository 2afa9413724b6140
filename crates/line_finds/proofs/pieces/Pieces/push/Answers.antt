use Rattle.line_finds.proofs.{Prelude.{arith, ◌+◌, ◌∙◌, ◌++◌, ◌∷◌, [], sym}, lemmas.PieceLemmas.{are_of, are_pushed, are_lists, seen_as, holds}}
use Rattle.line_finds.proofs.pieces.Pieces.push.Goals as goal

pub invariant_of-self-else-is_err : goal.invariant_of-self-else-is_err
invariant_of-self-else-is_err g c = are_lists (are_pushed (are_of c.self.view_is c.self.invariant) (0 + c.len-before.result) (c.args.first.now ++ c.args.last ∷ []) (omega (arith, c.len-before.ensures ∙ c.self.inside.items.ok.0)) c.in_ok-add_items.ensures.ok (holds c.add_start.result (sym c.if-is_err.ensures.value) c.add_start.ensures.ok))

pub returns-clause-ok : goal.returns-clause-ok
returns-clause-ok g c = seen_as (are_pushed (are_of c.self.view_is c.self.invariant) (0 + c.len-before.result) (c.args.first.now ++ c.args.last ∷ []) (omega (arith, c.len-before.ensures ∙ c.self.inside.items.ok.0)) c.in_ok-add_items.ensures.ok (holds c.add_start.result (sym c.if-is_err.ensures.value) c.add_start.ensures.ok))
