use Rattle.re_auto.proofs.{Prelude.{◌∙◌, expression_of, positions}, lemmas.RowLemmas.row_within}
use Rattle.re_auto.proofs.step.automaton.Automaton.following.Goals as goal

pub row-requires : goal.row-requires
row-requires c = rw (c.deref.ensures.value, (rw c.self.view_is at c.self.invariant).follow.0) (row_within c.args.p (positions (expression_of c.args.self.now)) c.self.inside.tables.width c.requires)

pub returns : goal.returns
returns c =
    let known = rw c.self.view_is at c.self.invariant in
    (c.row.ensures.len ∙ known.width, λ q. rw (c.row.ensures.is, c.deref.ensures.value) (known.follow.1 c.args.p q c.requires))
