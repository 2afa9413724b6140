-- How many steps an edit takes, and how many bytes it passes, at most: only what it touches is
-- searched.
use Rattle.std.specs.Prelude.{◌≡◌, ◌≢◌, ℕ, ◌+◌, ◌<◌, ◌≤◌, false, List, [], ◌∷◌, ◌++◌, ◌⊎◌, Result}
use Rattle.std.specs.{Prelude.{Ok, Err, get_or, length, if◌then◌else◌, ⊤}, List.flat_map}
use Rattle.re_syntax.specs.declared.syntax.Syntax.{TheVariants.Fixed, Syntax}
use Rattle.re_syntax.specs.{Profile.most_patterns, Spelled.IsMeant, Lines.list_of, Bytes.Text}
use Rattle.re_syntax.specs.{Expression.Expression, Holds.Matches}
use Rattle.grep_core.specs.declared.options.Flag.TheVariants.{LineRegexp, OnlyMatching, IgnoreCase}
use Rattle.grep_core.specs.{declared.options.{Flag.Flag, Options.Options}, Choose.{IfHolds, Chosen}}
use Rattle.grep_core.specs.{Meters.{Steps, AddsAtMost}, Cost.search_cost, Options.option_of}
use Rattle.grep_core.specs.Files.{AreMeant, Mean, Inputs, Matched}
use Rattle.grep_session.specs.Edits.{DropPattern, ChangePattern, Splice, SetContext, AddPatterns}
use Rattle.grep_session.specs.Edits.{HasPlace, SetSyntax, DropFile, AddFile, SetFlag, Applies, Edit}
use Rattle.grep_session.specs.declared.fault.EditFault.{EditFault}

-- what an edit has searched: each of `paired` by that number of patterns, and the parts of those of
-- `lines` that some pattern matches after it
pub record Touched : Type 0 where
  pub patterns : ℕ
  pub paired : List Text
  pub lines : List Text

abbrev pub nothing_touched : Touched
nothing_touched = record { patterns = 0; paired = []; lines = [] }

-- the lines searched by this number of patterns, and the parts of those that are matched
abbrev pub searched_by : ℕ → List Text → Touched
searched_by patterns lines = record { patterns = patterns; paired = lines; lines = lines }

-- the parts of those of the lines that are matched alone
abbrev pub parts_alone : List Text → Touched
parts_alone lines = record { patterns = 0; paired = []; lines = lines }

abbrev pub all_lines : Inputs → List Text
all_lines inputs = flat_map (λ file. file.lines) inputs.files

-- what an option touches when its value changes
abbrev pub touched_by_flag : Flag → Inputs → Touched
touched_by_flag IgnoreCase old = searched_by (length old.patterns) (all_lines old)
touched_by_flag LineRegexp old = searched_by (length old.patterns) (all_lines old)
touched_by_flag OnlyMatching old = parts_alone (all_lines old)
touched_by_flag _ old = nothing_touched

-- in place of the old text, the new one is known to match no other line: it is a string that has
-- the old one in it, and need not be the whole line
abbrev pub Narrows : Syntax → Options → Text → Text → Type 0
Narrows syntax options old new =
    (syntax ≡ Fixed) × (options.line_regexp ≡ false) × (old ≢ []) ×
    ((before : Text) × (after : Text) × (new ≡ before ++ (old ++ after)))

-- what an accepted edit touches
abbrev pub Touches : Edit → Inputs → Touched → Type 0
Touches (AddFile name lines) old touched = touched ≡ searched_by (length old.patterns) lines
Touches (Splice k start count lines) old touched = touched ≡ searched_by (length old.patterns) lines
Touches (AddPatterns list) old touched =
    (added : List Expression) × AreMeant old.syntax old.options (list_of list) added
    × (lines : List Text) × Chosen (Matched added old.options) (all_lines old) lines
    × (touched ≡ record { patterns = length (list_of list); paired = all_lines old; lines = lines })
Touches (DropPattern p) old touched =
    (e : Expression) × IsMeant old.syntax old.options.ignore_case (get_or old.patterns p []) e
    × (lines : List Text) ×
    Chosen (λ line. Matches e line old.options.line_regexp) (all_lines old) lines
    × (touched ≡ parts_alone lines)
Touches (ChangePattern p text) old touched =
    IfHolds (text ≡ get_or old.patterns p []) (touched ≡ nothing_touched)
    ((gone : Expression) ×
    IsMeant old.syntax old.options.ignore_case (get_or old.patterns p []) gone
    × (come : Expression) × IsMeant old.syntax old.options.ignore_case text come
    × (paired : List Text) ×
    IfHolds (Narrows old.syntax old.options (get_or old.patterns p []) text)
    (Chosen (λ line. Matches gone line old.options.line_regexp) (all_lines old) paired)
    (paired ≡ all_lines old)
    × (lines : List Text) × Chosen (Matched (gone ∷ come ∷ []) old.options) (all_lines old) lines
    × (touched ≡ record { patterns = 1; paired = paired; lines = lines }))
Touches (SetFlag flag on) old touched =
    IfHolds (option_of flag old.options ≡ on) (touched ≡ nothing_touched)
    (touched ≡ touched_by_flag flag old)
Touches (SetSyntax syntax) old touched =
    IfHolds (syntax ≡ old.syntax) (touched ≡ nothing_touched)
    (touched ≡ searched_by (length old.patterns) (all_lines old))
Touches _ old touched = touched ≡ nothing_touched

-- the cost of searching each of the lines once by each of this number of patterns
abbrev pub pairs_cost : ℕ → List Text → ℕ
pairs_cost patterns [] = 0
pairs_cost patterns (line ∷ lines) = search_cost patterns line + pairs_cost patterns lines

-- how many patterns search for the parts of a line that some pattern matches: all under `-o`, and
-- otherwise none
abbrev pub parting : List Expression → Options → ℕ
parting es options = if options.only_matching then length es else 0

-- the cost of an accepted edit, with the patterns and the options that it leaves: that of the pairs,
-- and of the parts of those of the lines that some pattern matches
pub record CostsAccepted (edit : Edit) (old new : Inputs) (cost : ℕ) : Type 0 where
  pub es : List Expression
  pub are_meant : Mean new es
  pub touched : Touched
  pub are_touched : Touches edit old touched
  pub parted : List Text
  pub are_parted : Chosen (Matched es new.options) touched.lines parted
  pub is_sum : cost ≡
      pairs_cost touched.patterns touched.paired + pairs_cost (parting es new.options) parted

-- a refused edit costs nothing
abbrev pub CostsAs : Edit → Inputs → Result Inputs EditFault → ℕ → Type 0
CostsAs edit old (Ok new) cost = CostsAccepted edit old new cost
CostsAs edit old (Err fault) cost = cost ≡ 0

abbrev pub Costs : Edit → Inputs → ℕ → Type 0
Costs edit old cost =
    (outcome : Result Inputs EditFault) × Applies edit old outcome × CostsAs edit old outcome cost

-- the steps of an edit, and the bytes that it passes: none, or no more than its cost
pub record TakesSteps (edit : Edit) (old : Inputs) (begun ended : Steps) : Type 0 where
  pub most : ℕ
  pub is_most : (most ≡ 0) ⊎ Costs edit old most
  pub few : AddsAtMost most begun ended

-- the options on which nothing that is kept depends
abbrev pub is_of_output : Flag → Type 0
is_of_output IgnoreCase = ⊥
is_of_output LineRegexp = ⊥
is_of_output OnlyMatching = ⊥
is_of_output _ = ⊤

-- the edits that ask for no memory: those that only remove something, change only what is written,
-- or set what is set already; and those refused for a file, a place or the number of patterns
abbrev pub NeedsNoMemory : Edit → Inputs → Type 0
NeedsNoMemory (DropFile k) old = ⊤
NeedsNoMemory (Splice k start count lines) old =
    (lines ≡ []) ⊎ (HasPlace old.files k start count → ⊥)
NeedsNoMemory (AddPatterns list) old = most_patterns < length old.patterns + length (list_of list)
NeedsNoMemory (DropPattern p) old = (old.options.only_matching ≡ false) ⊎ (length old.patterns ≤ p)
NeedsNoMemory (ChangePattern p text) old =
    (text ≡ get_or old.patterns p []) ⊎ (length old.patterns ≤ p)
NeedsNoMemory (SetFlag flag on) old =
    is_of_output flag ⊎ ((option_of flag old.options ≡ on) ⊎ ((flag ≡ OnlyMatching) × (on ≡ false)))
NeedsNoMemory (SetSyntax syntax) old = syntax ≡ old.syntax
NeedsNoMemory (SetContext context) old = ⊤
NeedsNoMemory _ old = ⊥
