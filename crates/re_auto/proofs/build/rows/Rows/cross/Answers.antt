use Rattle.re_auto.proofs.{Prelude.{arith, length, refl, ap, ◌∙◌, with_items_is}, lemmas.BitLemmas.or_never}
use Rattle.re_auto.proofs.build.rows.Rows.cross.Goals as goal

pub range_of-requires : goal.range_of-requires
range_of-requires c = omega (arith, ap length c.deref-3.ensures.value)

pub returns : goal.returns
returns c =
    let is = with_items_is c.args.self.now.follow c.cross_rows.new.follow (c.cross_rows.ensures.len ∙ c.deref_mut.ensures.len) in
    record {
      width = refl;
      follow_length = cc (c.cross_rows.ensures.len, c.deref_mut.ensures.value);
      takes_length = refl;
      follow = λ p q within. rw is (rw (c.deref_mut.ensures.value, c.deref.ensures.value, c.deref-2.ensures.value) at (c.cross_rows.ensures.added p q (rw c.deref_mut.ensures.value within)));
      takes = λ b q lt. or_never (λ h. h);
    }
