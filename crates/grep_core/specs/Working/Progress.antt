-- What is shown at each line of a file in turn, where lines around selected ones are shown.
use Rattle.std.specs.Prelude.{ℕ, ◌+◌, ◌-◌, nat_lt, min, Bool, true, false, ◌&&◌, ◌||◌, List, []}
use Rattle.std.specs.{Prelude.{◌∷◌, ◌++◌, length, map, drop, if◌then◌else◌}, List.enumerate_from}
use Rattle.{re_syntax.specs.Bytes.Text, grep_core.specs.Working.Requests.name_shown}
use Rattle.grep_core.specs.{Output.shown_number, Row.{head, colon, hyphen}, Around.group_separator}
use Rattle.grep_core.specs.declared.options.{Context.Context, Options.Options}
use Rattle.grep_core.specs.declared.output.around.{Progress.Progress, Shown.Shown}

-- nothing of the file is shown yet
abbrev pub progress_from : Context → Bool → Progress
progress_from context shown =
    record { context = context; shown = shown; gap = true; waiting = 0; left = 0 }

-- what is shown at the next line
abbrev pub next_shown : Progress → Bool → Shown
next_shown p true = record { separated = p.gap && p.shown; before = p.waiting; itself = true }
next_shown p false = record { separated = false; before = 0; itself = nat_lt 0 p.left }

-- n lines more wait that are not shown yet, as far as they may be before the next selected one
abbrev pub with_waiting : ℕ → Progress → Progress
with_waiting n p =
    record p {
      gap = p.gap || nat_lt p.context.before (p.waiting + n);
      waiting = min (p.waiting + n) p.context.before;
    }

abbrev pub after_line : Progress → Bool → Progress
after_line p true = record p { shown = true; gap = false; waiting = 0; left = p.context.after }
after_line p false = if nat_lt 0 p.left then record p { left = p.left - 1 } else with_waiting 1 p

-- the last n of some lines
abbrev pub last_of : {A : Type 0} → ℕ → List A → List A
last_of n xs = drop (length xs - n) xs

module _ (options : Options) (many : Bool) (name : Text) where
  -- a row with this separator in its head, for a line of this number
  abbrev pub row_with : ℕ → ℕ → Text → Text
  row_with separator number line =
      head separator (name_shown many name) (shown_number options number) ++ line

  -- the rows of lines that are not selected, the first of which has this number
  abbrev pub rows_around : ℕ → List Text → List Text
  rows_around number lines =
      map (λ line. row_with hyphen line.0 line.1) (enumerate_from number lines)

  abbrev pub row_by : Bool → ℕ → Text → Text
  row_by selected number line = row_with (if selected then colon else hyphen) number line

  -- what is written at the next line, before which these wait
  abbrev pub rows_at : Bool → Shown → List Text → ℕ → Text → List Text
  rows_at selected shown waiting number line =
      (if shown.separated then group_separator ∷ [] else [])
      ++ (if shown.itself
      then rows_around (number - length waiting) waiting ++ row_by selected number line ∷ []
      else [])
