use Rattle.grep_session.proofs.{Prelude.{List, All, false, Expression, IsFileKept}, lemmas.FileLemmas.MessagesTo}
use Rattle.grep_session.proofs.report.write_messages.Given as goal

-- the messages on the files up to here were written
abbrev pub invariant-loop-file : goal.invariant-loop-file
invariant-loop-file g l = (es : List Expression) → All (IsFileKept es l.options) l.files →
    MessagesTo (record { contents = g.W.CountedWrite.contents; failures = g.W.CountedWrite.failures; margin = l.margin; es = es; options = l.options; many = false }) l.files l.file-index l.fn.out l.out
