use Rattle.re_auto.proofs.lemmas.CountLaws.{count-Alt, count-Repeat, counted_more, min_product}
use Rattle.re_auto.proofs.build.count.+count.Goals as goal

pub count_all-members-preserved : goal.count_all-members-preserved
count_all-members-preserved t c = counted_more _ _ _ c.members-test.true c.index-members-i.is _ _ _ c.members.invariant c.position_count.ensures c.min-count.ensures

pub position_count-returns-in-Alt : goal.position_count-returns-in-Alt
position_count-returns-in-Alt t c = rw (c.in-Alt.is, count-Alt) (rw c.deref-in-Alt.ensures.value at c.count_all-in-Alt.ensures)

pub position_count-returns-in-Repeat : goal.position_count-returns-in-Repeat
position_count-returns-in-Repeat t c = rw (c.in-Repeat.is, count-Repeat, ← min_product, ← c.deref-in-Repeat.ensures, ← c.position_count.ensures, ← c.copies_of-copies.ensures.is) c.min.ensures
