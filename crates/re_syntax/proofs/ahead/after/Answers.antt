use Rattle.re_syntax.proofs.lemmas.{AheadLaws.is_after, CursorsLaws.{begins-drop, begins_not}}
use Rattle.re_syntax.proofs.ahead.after.Goals as goal

pub returns-then-starts_with : goal.returns-then-starts_with
returns-then-starts_with c =
    is_after c.requires
    (begins-drop c.args.text.now c.args.bytes.now c.args.at c.starts_with.ensures.value c.if-starts_with.true)

pub returns-else-starts_with : goal.returns-else-starts_with
returns-else-starts_with c = begins_not c.args.text.now c.args.bytes.now c.args.at c.starts_with.ensures.value c.if-starts_with.false
