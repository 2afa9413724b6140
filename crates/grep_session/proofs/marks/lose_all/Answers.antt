use Rattle.grep_session.proofs.{Prelude.{length, arith, ap, ◌∙◌, lost}, lemmas.{AddingLemmas.all_back, LostLemmas.{mapped_all, mapped_next}}}
use Rattle.grep_session.proofs.marks.lose_all.Goals as goal

pub loop-mark-preserved : goal.loop-mark-preserved
loop-mark-preserved c = mapped_next lost _ _ _ _ _ c.loop-mark.invariant (omega (arith, ap length c.deref_mut-mark-items.ensures.value)) c.lose.ensures

pub returns : goal.returns
returns c =
    let len = ap length c.deref_mut-mark-items.ensures.value in
    all_back _ _ _ c.args.marks.now.ok.0 (omega arith) ∙ c.loop-mark.invariant
    ∙ mapped_all lost c.args.marks.now.items c.loop-mark.mark-index (omega arith)
