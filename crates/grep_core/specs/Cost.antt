-- How much work a search of lines takes at most. A step is a byte over which a set of positions or
-- a table goes. A passed byte is one over which a search for strings that the matches need goes. No
-- more steps are taken than this cost, and no more bytes are passed. A search of a line costs one
-- for each byte and one more.
use Rattle.std.specs.Prelude.{ℕ, ◌+◌, ◌*◌, List, length, sum_by}
use Rattle.{re_meter.specs.Meters.{Steps, AddsAtMost}, re_syntax.specs.Bytes.Text}
use Rattle.grep_core.specs.{declared.options.Options.Options, Output.{form, parts, Form}}
use Rattle.grep_core.specs.Files.{File}

-- one search of a line by each of the matchers
abbrev pub search_cost : ℕ → Text → ℕ
search_cost matchers line = matchers * (length line + 1)

-- how often a line is searched for its parts: once where they are written
abbrev pub part_searches : Form → ℕ
part_searches parts = 1
part_searches _ = 0

module _ (options : Options) (matchers : ℕ) where
  -- a line is searched once, and for its parts besides
  abbrev pub line_cost : Text → ℕ
  line_cost line = (part_searches (form options) + 1) * search_cost matchers line

  abbrev pub lines_cost : List Text → ℕ
  lines_cost text = sum_by line_cost text

  abbrev pub files_cost : List File → ℕ
  files_cost files = sum_by (λ file. lines_cost file.lines) files

  -- no more work was done than the search of these files costs
  abbrev pub SearchesFiles : List File → Steps → Steps → Type 0
  SearchesFiles files old new = AddsAtMost (files_cost files) old new
