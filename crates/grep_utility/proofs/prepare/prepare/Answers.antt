use Rattle.{grep_utility.proofs.{Prelude.{sym, ◌∙◌, asked}, lemmas.CommandLemmas.{kind_differs, not_memory, stops_due}}, re_syntax.specs.Lines.lines_of}
use Rattle.grep_utility.proofs.prepare.prepare.Goals as goal

pub returns-in-Err-clause-err : goal.returns-in-Err-clause-err
returns-in-Err-clause-err g c = stops_due (asked c.args.request.now) _ _ _ _ (rw c.deref.ensures.value at c.in-Err.ensures.err)

pub returns-then-has_more_than-clause-err : goal.returns-then-has_more_than-clause-err
returns-then-has_more_than-clause-err g c =
    let many = sym c.has_more_than.ensures ∙ c.if-has_more_than.true in
    (_, rw c.deref.ensures.value at c.in-Ok.ensures.ok, rw c.deref-2.ensures.value at many, c.in-Ok.ensures.none_failed)

pub returns-in-Ok-searchers_of-clause-ok : goal.returns-in-Ok-searchers_of-clause-ok
returns-in-Ok-searchers_of-clause-ok g c =
    let few = sym c.has_more_than.ensures ∙ c.if-has_more_than.false in
    record {
      texts = lines_of c.in-Ok.texts.items;
      are_texts = rw c.deref.ensures.value at c.in-Ok.ensures.ok;
      few = rw c.deref-2.ensures.value at few;
      serve = rw c.deref-3.ensures.value at c.in-Ok-searchers_of.ensures.ok;
      used = rw c.deref.ensures.value at c.in-Ok.ensures.used;
    }

pub returns-clause-err : goal.returns-clause-err
returns-clause-err g c =
    let few = sym c.has_more_than.ensures ∙ c.if-has_more_than.false in
    let first = not_memory _ _ _ _ _ (kind_differs _ _ c.eq.ensures c.if-eq.false) c.in-Err-searchers_of.ensures.err in
    (_, rw c.deref.ensures.value at c.in-Ok.ensures.ok, rw c.deref-2.ensures.value at few, rw c.deref-3.ensures.value at first, c.in-Ok.ensures.none_failed)
