use Rattle.re_strings.proofs.{Prelude.map, lemmas.SetTable.nodes_right}
use Rattle.re_strings.proofs.build.nodes_of.Goals as goal

pub returns-clause-right : goal.returns-clause-right
returns-clause-right c = λ strings same.
    nodes_right (map (λ s. s.now) c.args.strings.now) strings same c.in_ok-growth.growth.branches.items c.in_ok-growth.growth.first.items c.in_ok-growth.ensures.rows c.requires
    c.in_ok-bytes.bytes.items c.in_ok-owns.owns.items
    (rw c.deref-2.ensures.value at c.in_ok-bytes.ensures.all) (rw c.deref-2.ensures.value at c.in_ok-bytes.ensures.each)
    (rw c.deref.ensures.value at c.in_ok-owns.ensures.all) (rw c.deref.ensures.value at c.in_ok-owns.ensures.each)
