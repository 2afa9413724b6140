use Rattle.re_syntax.proofs.{Prelude.refl, lemmas.CursorsLaws.{begins-drop, begins_not}}
use Rattle.re_syntax.proofs.cursor.Cursor.skip.Goals as goal

pub returns-then-follows-clause-skipped : goal.returns-then-follows-clause-skipped
returns-then-follows-clause-skipped c =
    rw c.if-follows.true (record {
      same_text = refl;
      passed = begins-drop c.args.self.now.text.now c.args.bytes.now c.args.self.now.at c.starts_with-follows.ensures.value c.if-follows.true;
      place_is = refl;
    })

pub returns-else-follows-clause-skipped : goal.returns-else-follows-clause-skipped
returns-else-follows-clause-skipped c =
    rw c.if-follows.false
    (begins_not c.args.self.now.text.now c.args.bytes.now c.args.self.now.at c.starts_with-follows.ensures.value c.if-follows.false)
