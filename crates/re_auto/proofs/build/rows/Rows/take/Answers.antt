use Rattle.re_auto.proofs.{Prelude.{rfl, trans, refl, ◌∙◌, with_items_is}, lemmas.BitLemmas.{one_of, or_never}}
use Rattle.re_auto.proofs.build.rows.Rows.take.Goals as goal

pub returns : goal.returns
returns c =
    let is = with_items_is c.args.self.now.takes c.mark_takers.new.takes (c.mark_takers.ensures.len ∙ c.deref_mut.ensures.len) in
    record {
      width = refl;
      follow_length = refl;
      takes_length = cc (c.mark_takers.ensures.len, c.deref_mut.ensures.value);
      follow = λ p q within. or_never (λ h. h);
      takes = λ b q lt.
          let (to, from) = c.takers_of-takers.ensures b lt in
          rw is (trans (rw c.deref_mut.ensures.value at (c.mark_takers.ensures.added b q lt)) (one_of rfl (λ m. (m.1, to m.0), λ m. (from m.1, m.0))));
    }
