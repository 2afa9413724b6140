use Rattle.re_search.proofs.{Prelude.{inl, inr, sym, arith}, lemmas.PartOfBoth.{Leads, second_alone, first_alone, first_leads, second_leads}}
use Rattle.re_search.proofs.several.better.Goals as goal

pub returns-in_default : goal.returns-in_default
returns-in_default c es fs line whole from p q = second_alone es fs line whole from c.args.found (rw c.in_default.is at p) q

pub returns-in_default-found : goal.returns-in_default-found
returns-in_default-found c es fs line whole from p q = first_alone es fs line whole from _ _ (rw c.in-Some.is at p) (rw c.in_default-found.is at q)

pub returns-then-new-old : goal.returns-then-new-old
returns-then-new-old c es fs line whole from p q =
    let leads : Leads c.in-Some-found.new.start c.in-Some-found.new.end c.in-Some.old.start c.in-Some.old.end = record { first = omega arith; longer = λ e. absurd (omega arith) } in
    second_leads es fs line whole from _ _ _ _ (rw c.in-Some.is at p) (rw c.in-Some-found.is at q) leads

pub returns-then-old-new : goal.returns-then-old-new
returns-then-old-new c es fs line whole from p q =
    let leads : Leads c.in-Some-found.new.start c.in-Some-found.new.end c.in-Some.old.start c.in-Some.old.end = record { first = omega arith; longer = λ e. omega arith } in
    second_leads es fs line whole from _ _ _ _ (rw c.in-Some.is at p) (rw c.in-Some-found.is at q) leads

pub returns : goal.returns
returns c es fs line whole from p q =
    let leads : Leads c.in-Some.old.start c.in-Some.old.end c.in-Some-found.new.start c.in-Some-found.new.end = record { first = omega arith; longer = λ e. elim c.else-new-old-2.either [ inl h ↦ h.1 | inr apart ↦ absurd (apart (sym e)) ] } in
    first_leads es fs line whole from _ _ _ _ (rw c.in-Some.is at p) (rw c.in-Some-found.is at q) leads
