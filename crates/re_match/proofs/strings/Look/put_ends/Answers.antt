use Rattle.{re_match.proofs.{Prelude.{◌<◌, length, sym, ap, ◌∙◌, arith, eqb-false}, lemmas.OneText.past_found}, re_ends.proofs.lemmas.FoundEnds.adds_alike}
use native.Mathlib.Omega.{by_contra}
use Rattle.re_match.proofs.strings.Look.put_ends.Goals as goal

pub returns-else-is_empty-clause-added : goal.returns-else-is_empty-clause-added
returns-else-is_empty-clause-added c =
    let some : 0 < length c.in-One.finder = by_contra _ _ (λ h. eqb-false _ _ (sym c.is_empty.ensures ∙ c.if-is_empty.false) (let size = ap length c.needle.ensures in omega arith)) in
    let added = rw c.needle-in-One.ensures at c.add_occurrences.ensures.added in
    rw c.in-One.is (adds_alike _ _ c.args.line.now c.args.ends.now c.add_occurrences.new.ends (past_found c.in-One.finder c.args.line.now some c.args.start) added)

pub returns-in-Many-clause-added : goal.returns-in-Many-clause-added
returns-in-Many-clause-added c = rw c.in-Many.is (rw c.deref.ensures at c.put_ends.ensures)
