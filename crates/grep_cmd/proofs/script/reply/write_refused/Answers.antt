use Rattle.grep_cmd.proofs.Prelude.{cause}
use Rattle.grep_cmd.proofs.script.reply.write_refused.Goals as goal

pub returns-in-LineHasNewline : goal.returns-in-LineHasNewline
unfolding cause
returns-in-LineHasNewline g c =
    rw c.in-LineHasNewline.is c.write_line-in-LineHasNewline.ensures

pub returns-in-NoSuchPattern : goal.returns-in-NoSuchPattern
unfolding cause
returns-in-NoSuchPattern g c =
    rw c.in-NoSuchPattern.is c.write_line-in-NoSuchPattern.ensures

pub returns-in-Pattern : goal.returns-in-Pattern
unfolding cause
returns-in-Pattern g c =
    rw c.in-Pattern.is c.write_pattern_refused.ensures
