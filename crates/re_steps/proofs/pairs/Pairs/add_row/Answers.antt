use Rattle.re_steps.proofs.{Prelude.{◌≡◌, ◌++◌, replicate, ap, ◌∙◌, take-replicate, unknown}, lemmas.PairLemmas.mirrors_longer}
use Rattle.re_steps.proofs.pairs.Pairs.add_row.Goals as goal

pub invariant_of-self-2 : goal.invariant_of-self-2
invariant_of-self-2 c =
    let added : c.extend_from_slice.new.self.items ≡ c.self.inside.cells.items ++ replicate c.args.width unknown =
    c.in_ok-extend_from_slice.ensures.items ∙ ap (λ xs. c.self.inside.cells.items ++ xs) (take-replicate c.args.width 256 unknown c.requires) in
    rw added (mirrors_longer _ _ _ c.self.invariant)

pub returns-clause-added : goal.returns-clause-added
returns-clause-added c =
    let added : c.extend_from_slice.new.self.items ≡ c.self.inside.cells.items ++ replicate c.args.width unknown =
    c.in_ok-extend_from_slice.ensures.items ∙ ap (λ xs. c.self.inside.cells.items ++ xs) (take-replicate c.args.width 256 unknown c.requires) in
    added ∙ ap (λ s. s.cells ++ replicate c.args.width unknown) c.self.view_is

pub returns-clause-mirrors : goal.returns-clause-mirrors
returns-clause-mirrors c =
    let added : c.extend_from_slice.new.self.items ≡ c.self.inside.cells.items ++ replicate c.args.width unknown =
    c.in_ok-extend_from_slice.ensures.items ∙ ap (λ xs. c.self.inside.cells.items ++ xs) (take-replicate c.args.width 256 unknown c.requires) in
    rw added (mirrors_longer _ _ _ c.self.invariant)
