use Rattle.grep_session.proofs.{Prelude.{◌≡◌, sym, ◌∙◌, [], eqb-false}, lemmas.NarrowingLemmas.{finds_inside, narrows_if}}
use Rattle.grep_session.proofs.patterns.narrows.Goals as goal

pub returns : goal.returns
returns c =
    let old = c.args.old.now in
    let found = rw c.new.ensures at c.find-2.ensures in
    let some : old ≡ [] → ⊥ = λ none. eqb-false _ _ (sym c.is_empty.ensures ∙ c.if-is_empty.false) (rw none) in
    let decides = rw (← c.is_some.ensures) at (finds_inside old c.args.new.now c.find-2.result found) in
    narrows_if c.args.syntax c.args.options.now old c.args.new.now c.is_some.result c.if-not-is_same.ensures c.if-options.false some decides
