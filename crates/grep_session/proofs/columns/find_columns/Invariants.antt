use Rattle.{std.specs.Prelude.vec_capacity, grep_session.proofs.Prelude.{◌≡◌, map, take, All, [], AreSame, HasChanged, IsFileKept, SearchesEach, AddsColumns, chunks_of_files, lines_of_files, kept_file, matched_expression}}
use Rattle.grep_session.proofs.columns.find_columns.Given as goal

-- the first files were searched
abbrev pub invariant-loop-file : goal.invariant-loop-file
invariant-loop-file l = record {
  found : AddsColumns l.change (map matched_expression l.fn.matchers.items) l.search.options (chunks_of_files (take l.file-index l.fn.files.items)) [] l.found.items;
  same_matchers : AreSame l.fn.matchers.items l.matchers.items;
  room : vec_capacity l.matchers ≡ vec_capacity l.fn.matchers;
  steps : (h : HasChanged l.change (map matched_expression l.fn.matchers.items) l.search.options) → All (IsFileKept h.before h.was) l.fn.files.items
      → SearchesEach l.change h.gone h.come (map matched_expression l.fn.matchers.items) l.search.options (lines_of_files (map kept_file (take l.file-index l.fn.files.items))) l.fn.meter l.meter;
}
