use Rattle.line_finds.proofs.{Prelude.{◌≡◌, ℕ, ◌≤◌, ◌∙◌, [], ap, arith, get_or, length}, lemmas.PieceLemmas.{is_with, put_at, many_with, on_err, only_empty, filled_up}}
use Rattle.line_finds.proofs.pieces.Pieces.put.Goals as goal

pub returns-clause-put : goal.returns-clause-put
returns-clause-put g c = λ i. ap (λ lists. get_or lists i []) (is_with c.args.k c.args.self.now c.in_ok-fill.ensures.ok c.in_ok-push.ensures.ok c.in-Some.ensures.cases.0) ∙ put_at c.args.self.now c.args.k c.args.list.now i c.requires

pub returns-clause-within : goal.returns-clause-within
returns-clause-within g c = omega (arith, ap length (is_with c.args.k c.args.self.now c.in_ok-fill.ensures.ok c.in_ok-push.ensures.ok c.in-Some.ensures.cases.0), many_with c.args.k c.args.list.now c.args.self.now c.requires)

pub returns-in_err-push-clause-same : goal.returns-in_err-push-clause-same
returns-in_err-push-clause-same g c =
    let same : (i : ℕ) → get_or c.push.new.self i [] ≡ get_or c.args.self.now i [] = λ i. ap (λ lists. get_or lists i []) (c.in_err-push.ensures.err ∙ c.in_ok-fill.ensures.ok) ∙ only_empty c.args.self.now _ i in
    on_err _ same

pub returns-in_err-push-clause-few : goal.returns-in_err-push-clause-few
returns-in_err-push-clause-few g c =
    let few : length c.push.new.self ≤ c.args.k = omega (arith, ap length (c.in_err-push.ensures.err ∙ c.in_ok-fill.ensures.ok), filled_up c.args.self.now _ c.requires) in
    on_err _ few
