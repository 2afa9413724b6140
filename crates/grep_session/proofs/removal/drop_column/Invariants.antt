use Rattle.grep_session.proofs.Prelude.{◌≡◌, ◌<◌, List, length, map, false, All, AllWithin, remove, Expression, Options, IsFileKept, kept_file}
use Rattle.grep_session.proofs.removal.drop_column.Given as goal

abbrev pub invariant-loop-file : goal.invariant-loop-file
invariant-loop-file l = record {
  same : map kept_file l.file-items ≡ map kept_file l.fn.files.items;
  kept : (es : List Expression) (options : Options) → l.p < length es → options.only_matching ≡ false → All (IsFileKept es options) l.fn.files.items
      → AllWithin (IsFileKept (remove es l.p) options) l.file-items 0 l.file-index × AllWithin (IsFileKept es options) l.file-items l.file-index (length l.fn.files.items);
}
