use Rattle.grep_session.proofs.Prelude.{◌≡◌, List, map, drop, AllZip, AllWithin, into_iter_items, Expression, Options, FitsColumn, IsFileKept, kept_file, IsColumn, chunks_of_files}
use Rattle.grep_session.proofs.found.put_columns.Given as goal

-- the lines of the first files have what was found in them, and the others are as they were
abbrev pub invariant-loop-file : goal.invariant-loop-file
invariant-loop-file l = record {
  same : map kept_file l.file-items ≡ map kept_file l.fn.files.items;
  later : drop l.file-index l.file-items ≡ drop l.file-index l.fn.files.items;
  fit : AllZip FitsColumn (chunks_of_files (drop l.file-index l.fn.files.items)) (into_iter_items l.rest);
  right : (es : List Expression) (options : Options) → AllZip (IsColumn es options) (chunks_of_files l.fn.files.items) l.fn.found.items
      → AllWithin (IsFileKept es options) l.file-items 0 l.file-index × AllZip (IsColumn es options) (chunks_of_files (drop l.file-index l.fn.files.items)) (into_iter_items l.rest);
}
