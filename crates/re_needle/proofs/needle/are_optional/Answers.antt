use Rattle.{re_needle.proofs.Prelude.{take, take_all, take_more, arith, get_or, length, IsOptional}, std.proofs.lemmas.List.Elements.All-push}
use Rattle.re_needle.specs.declared.outline_item.OutlineItem.TheVariants as m
use Rattle.re_needle.proofs.needle.are_optional.Goals as goal

pub marks-preserved : goal.marks-preserved
marks-preserved c =
    let marks = c.args.marks.now in let place = c.marks.place in let blank = m.Set record { low = 0; high = 0 } in
    rw (take_more marks place blank c.marks-test.true)
    (All-push IsOptional (take place marks) (get_or marks place blank) c.marks.invariant (c.is_optional.ensures c.if-not-is_optional.false))

pub returns : goal.returns
returns c = λ _. rw (take_all c.marks.place c.args.marks.now (omega arith)) at c.marks.invariant
