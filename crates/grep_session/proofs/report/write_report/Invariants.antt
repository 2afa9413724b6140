use Rattle.grep_session.proofs.{Prelude.{List, All, Expression, IsFileKept}, lemmas.FileLemmas.FilesTo}
use Rattle.grep_session.proofs.report.write_report.Given as goal

-- the output for the files up to here was written
abbrev pub invariant-loop-file : goal.invariant-loop-file
invariant-loop-file g l = (es : List Expression) → All (IsFileKept es l.options) l.files →
    FilesTo (record { contents = g.W.CountedWrite.contents; failures = g.W.CountedWrite.failures; margin = l.margin; es = es; options = l.options; many = l.many }) l.files l.file-index l.fn.out l.out l.some
