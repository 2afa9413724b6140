use Rattle.re_search.proofs.{Prelude.{subst, sym, arith, IfSome, FindsPart, Sought, ArePartsOf}, lemmas.{OneMatcher.alone, LinePartsLaws.{known_of_all, known_after, known_whole}}}
use Rattle.re_search.proofs.line_parts.next_part.Goals as goal

pub returns-then-seen-gt0-clause-reported : goal.returns-then-seen-gt0-clause-reported
returns-then-seen-gt0-clause-reported c = rw c.if-whole.true (known_whole _ _ _ _ _ (omega (arith, c.if-seen-gt0.true, c.seen.ensures)) (rw c.if-whole.true at (c.known_part.ensures _ _ c.requires.right)))

pub returns-then-seen-gt0-clause-right : goal.returns-then-seen-gt0-clause-right
returns-then-seen-gt0-clause-right c = known_after _ _ _ _ _ c.requires.right (c.known_part.ensures _ _ c.requires.right)

pub next_of_one-requires-clause-right : goal.next_of_one-requires-clause-right
next_of_one-requires-clause-right c =
    subst (λ s. ArePartsOf s c.args.line.now c.args.from c.args.parts.now) (alone c.args.matchers.now _ c.args.whole c.if-matchers-eq1.true c.if-whole.false) c.requires.right

pub returns-then-matchers-eq1-clause-reported : goal.returns-then-matchers-eq1-clause-reported
returns-then-matchers-eq1-clause-reported c =
    subst (λ (s : Sought). FindsPart s.expressions c.args.line.now s.whole c.args.from c.next_of_one.result)
    (sym (alone c.args.matchers.now c.index-matchers-0.result c.args.whole c.if-matchers-eq1.true c.if-whole.false)) c.next_of_one.ensures.reported

pub returns-then-matchers-eq1-clause-right : goal.returns-then-matchers-eq1-clause-right
returns-then-matchers-eq1-clause-right c =
    subst (λ s. IfSome c.next_of_one.result (λ part. ArePartsOf s c.args.line.now part.end c.next_of_one.new.parts))
    (sym (alone c.args.matchers.now c.index-matchers-0.result c.args.whole c.if-matchers-eq1.true c.if-whole.false)) c.next_of_one.ensures.right

pub returns-then-seen-line-clause-reported : goal.returns-then-seen-line-clause-reported
returns-then-seen-line-clause-reported c = known_of_all _ _ _ _ _ (omega (arith, c.seen-2.ensures, c.if-seen-line.true)) (c.known_part-then-seen-line.ensures _ _ c.requires.right)

pub returns-then-seen-line-clause-right : goal.returns-then-seen-line-clause-right
returns-then-seen-line-clause-right c = known_after _ _ _ _ _ c.requires.right (c.known_part-then-seen-line.ensures _ _ c.requires.right)

pub returns-clause-reported : goal.returns-clause-reported
returns-clause-reported c = rw c.if-whole.false (known_of_all _ _ _ _ _ c.look_over.ensures.seen (c.known_part-2.ensures _ _ (c.look_over.ensures.right c.args.from)))

pub returns-clause-right : goal.returns-clause-right
returns-clause-right c = rw c.if-whole.false (known_after _ _ _ _ _ (c.look_over.ensures.right c.args.from) (c.known_part-2.ensures _ _ (c.look_over.ensures.right c.args.from)))
