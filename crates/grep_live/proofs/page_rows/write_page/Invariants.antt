use Rattle.grep_live.proofs.{Prelude.{List, Expression, View, AreHits, Mean}, lemmas.PageLemmas.PagedUpTo}
use Rattle.grep_live.proofs.page_rows.write_page.Given as goal

abbrev pub invariant-loop-k : goal.invariant-loop-k
invariant-loop-k g l =
    (es : List Expression) → Mean l.session.inputs es → (view : View) → AreHits es l.session.inputs.options l.session.inputs.files view →
    PagedUpTo l.form.has_text g.W.CountedWrite.contents g.W.CountedWrite.failures l.form.margin.now l.first l.count view l.fn.out l.out l.out l.fn.out l.out l.k l.page.skip l.page.left
