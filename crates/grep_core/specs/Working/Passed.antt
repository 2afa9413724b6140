-- Lines of a reader that are passed without being handed out.
use Rattle.std.specs.Prelude.{◌≡◌, ◌⊎◌, List, [], All, length}
use Rattle.{re_syntax.specs.{Bytes.Text, Expression.Expression}, grep_core.specs.Files.Selected}
use Rattle.grep_core.specs.declared.{options.Options.Options, output.around.Progress.Progress}
use Rattle.grep_core.specs.Working.{Progress.with_waiting, LastLines.{LastLines, with_lines}}

abbrev pub AreUnselected : List Expression → Options → List Text → Type 0
AreUnselected es options lines = All (λ line. ¬ Selected es options line) lines

-- lines wait where none is shown after the last selected one, and the last of them are held
abbrev pub Waits : List Text → Progress → Progress → LastLines → LastLines → Type 0
Waits passed old new recent held =
    ((passed ≡ []) × (new ≡ old) × (held ≡ recent)) ⊎
    ((old.left ≡ 0) × (new ≡ with_waiting (length passed) old)
    × (held ≡ with_lines recent passed))
