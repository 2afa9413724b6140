use Rattle.grep_live.proofs.{Prelude.{List, Expression, View, AreHits, Mean}, lemmas.PageLemmas.CountedFiles}
use Rattle.grep_live.proofs.page_rows.count_all.Given as goal

abbrev pub invariant-loop-k : goal.invariant-loop-k
invariant-loop-k l = (es : List Expression) → Mean l.session.inputs es → (view : View) → AreHits es l.session.inputs.options l.session.inputs.files view → CountedFiles view l.k l.total
