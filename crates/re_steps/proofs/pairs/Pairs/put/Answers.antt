use Rattle.re_steps.proofs.{Prelude.{sym, ◌∙◌, arith}, lemmas.PairLemmas.{lost_within, mirrors_lost, mirrors_kept}}
use Rattle.re_steps.proofs.pairs.Pairs.put.Goals as goal

pub index_mut-requires : goal.index_mut-requires
index_mut-requires c =
    let lost = lost_within c.self.inside.entries c.len-held.ensures.valid c.self.inside.cells.items c.self.invariant c.args.at c.args.cell (rw (← c.self.view_is) at c.requires.within) (rw (← c.self.view_is) at c.requires.none) c.in-Ok-Some.place c.in-Ok-Some.field-0-0-1 (sym c.in-Ok-Some.ensures.old ∙ c.in-Ok-Some.field-0-is) in
    omega (arith, lost, c.self.inside.cells.ok)

pub invariant_of-self : goal.invariant_of-self
invariant_of-self c =
    let now = mirrors_lost c.self.inside.entries c.len-held.ensures.valid c.self.inside.cells.items c.self.invariant c.args.at c.args.cell (rw (← c.self.view_is) at c.requires.within) (rw (← c.self.view_is) at c.requires.none) c.requires.known c.in-Ok-Some.place c.in-Ok-Some.field-0-0-1 (sym c.in-Ok-Some.ensures.old ∙ c.in-Ok-Some.field-0-is) in
    rw c.in-Ok-Some.ensures.entries now

pub invariant_of-self-in-Ok-None : goal.invariant_of-self-in-Ok-None
invariant_of-self-in-Ok-None c =
    let now = mirrors_kept c.self.inside.entries c.len-held.ensures.valid c.self.inside.cells.items c.self.invariant c.args.at c.args.cell (rw (← c.self.view_is) at c.requires.within) (rw (← c.self.view_is) at c.requires.none) c.requires.known (sym c.in-Ok-None.ensures.old ∙ c.in-Ok-None.field-0-is) in
    rw c.in-Ok-None.ensures.entries now

pub returns-in-Ok-Some-clause-mirrors : goal.returns-in-Ok-Some-clause-mirrors
returns-in-Ok-Some-clause-mirrors c =
    let now = mirrors_lost c.self.inside.entries c.len-held.ensures.valid c.self.inside.cells.items c.self.invariant c.args.at c.args.cell (rw (← c.self.view_is) at c.requires.within) (rw (← c.self.view_is) at c.requires.none) c.requires.known c.in-Ok-Some.place c.in-Ok-Some.field-0-0-1 (sym c.in-Ok-Some.ensures.old ∙ c.in-Ok-Some.field-0-is) in
    rw c.in-Ok-Some.ensures.entries now

pub returns-in-Ok-None-clause-mirrors : goal.returns-in-Ok-None-clause-mirrors
returns-in-Ok-None-clause-mirrors c =
    let now = mirrors_kept c.self.inside.entries c.len-held.ensures.valid c.self.inside.cells.items c.self.invariant c.args.at c.args.cell (rw (← c.self.view_is) at c.requires.within) (rw (← c.self.view_is) at c.requires.none) c.requires.known (sym c.in-Ok-None.ensures.old ∙ c.in-Ok-None.field-0-is) in
    rw c.in-Ok-None.ensures.entries now
