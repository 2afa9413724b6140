-- The lines that are held in one piece, as far as they were searched at once.
use Rattle.std.specs.Prelude.{ℕ, All, length, ◌≡◌, ◌++◌, [], MatchOption, Result, IfOk, List}
use Rattle.std.specs.Prelude.{Bool, MatchBool, Option, ◌+◌, ◌∷◌, ◌≤◌}
use Rattle.re_syntax.specs.{Lines.{HasNoNewline, lines_of, terminated}, Bytes.Text}
use Rattle.re_search.specs.Working.Sought.{IsSought, Sought}
use Rattle.grep_io.specs.{declared.input.lines.Stage.TheVariants.Ended, Working.Numbered.Numbered}
use Rattle.{grep_io.specs.{Reading.most_lines, Written.Writes}, grep_core.specs.Choose.Chosen}
use Rattle.grep_core.specs.declared.search.searched_block.SearchedBlock.{SearchedBlock}

-- the stretch is all these lines: those before the first that is matched, and that line, if there
-- is one
pub record IsDivided (sought : Sought) (stretch : SearchedBlock) (before all : List Text) : Type 0 where
  pub free : All HasNoNewline all
  pub bytes : stretch.before.now ≡ terminated before
  pub many : stretch.before_count ≡ length before
  pub width : stretch.bytes ≡ length (terminated all)
  pub counted : stretch.count ≡ length all
  pub none : All (λ line. ¬ IsSought sought line) before
  pub next : MatchOption stretch.line (all ≡ before)
      (λ line. IsSought sought line.now × (all ≡ before ++ line.now ∷ []))

-- these are the next lines, each with its newline, and all of them can be numbered
pub record IsNextOf {R : Type 0} (now : Numbered R) (all : List Text) : Type 0 where
  pub rest : Text
  pub ahead : now.lines.ahead ≡ terminated all ++ rest
  pub few : now.number + length all ≤ most_lines
  pub open_still : now.lines.stage ≡ Ended → now.lines.ahead ≡ []

-- the line is matched, or it isn't, if the others are asked for
abbrev pub IsChosen : Bool → Sought → Text → Type 0
IsChosen others sought line = MatchBool others (IsSought sought line → ⊥) (IsSought sought line)

-- such lines of the block were written as they are, and at an Ok it is known how many they are
abbrev pub WritesChosen : {W E : Type 0} → (W → Option Text) → (W → ℕ) → Bool → Sought → Text → W → W → Result ℕ E → Type 0
WritesChosen contents failures others sought block old new result =
    (chosen : List Text) × Chosen (IsChosen others sought) (lines_of block) chosen
    × Writes contents failures old new (terminated chosen) result
    × IfOk result (λ found. found ≡ length chosen)
