use Rattle.re_ends.proofs.{Prelude.{arith, ap, ◌∙◌, slice_index, with_items_is, expression_of}, lemmas.KeptLaws.blank_at}
use Rattle.re_ends.proofs.lemmas.TableLaws as laws
use Rattle.re_ends.proofs.table.EndTable.look_back.Goals as goal

pub returns-clause-found : goal.returns-clause-found
returns-clause-found c = λ end within was.
    let e = expression_of c.args.asked.now.automaton.now in
    let line = c.args.asked.now.line.now in
    let place = c.args.seen.spot.place in
    let zeros = c.deref_mut.ensures.value ∙ c.fill.ensures.items (λ y h. h) in
    let same = c.deref.ensures.value ∙ with_items_is c.fill.new.self c.go_back-spot.new.ends (c.go_back-spot.ensures.added.0 ∙ c.deref_mut.ensures.len) in
    rw c.go_back-spot.ensures.place
    (laws.first_found e line c.max-stop.result place end c.deref_mut.result.now c.go_back-spot.new.ends c.args.seen.first c.first_of-first.result (omega (arith, c.max-stop.ensures, c.saturating_sub.ensures, c.requires.some)) (λ i. ap (λ l. slice_index l i) zeros ∙ blank_at 0 _ i) c.go_back-spot.ensures.added within (rw same at c.first_of-first.ensures) was)
