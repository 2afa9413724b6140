-- The fixed texts on standard error (XCU grep, STDERR).
use Rattle.std.specs.{Prelude.{List, ◌+◌, ◌∷◌, codes, [], ◌++◌, ℕ, encode_utf8}, Fmt.decimal}
use Rattle.re_syntax.specs.declared.fault.{FaultKind.FaultKind, PatternFault.PatternFault}
use Rattle.re_syntax.specs.Bytes.{Text}
use Rattle.grep_utility.specs.declared.words.UsageFault.TheVariants.{MissingArgument, TwoSyntaxes}
use Rattle.grep_utility.specs.declared.words.UsageFault.TheVariants.{Memory, BadNumber, NoPattern}
use Rattle.grep_utility.specs.declared.words.UsageFault.{TheVariants.UnknownOption, UsageFault}
use Rattle.re_syntax.specs.declared.fault.FaultKind.TheVariants as kind

abbrev pub out_of_memory : Text
out_of_memory = codes "grep: out of memory"

abbrev pub write_error : Text
write_error = codes "grep: write error"

abbrev pub too_many_patterns : Text
too_many_patterns = codes "grep: too many patterns"

unfoldable pub kind_name : FaultKind → Text
kind_name kind.UnclosedBracket = codes "UnclosedBracket"
kind_name kind.BadClass = codes "BadClass"
kind_name kind.BadCollatingSymbol = codes "BadCollatingSymbol"
kind_name kind.BadRange = codes "BadRange"
kind_name kind.UnclosedGroup = codes "UnclosedGroup"
kind_name kind.UnopenedGroup = codes "UnopenedGroup"
kind_name kind.BadInterval = codes "BadInterval"
kind_name kind.IntervalTooLarge = codes "IntervalTooLarge"
kind_name kind.NothingToRepeat = codes "NothingToRepeat"
kind_name kind.TrailingBackslash = codes "TrailingBackslash"
kind_name kind.UndefinedEscape = codes "UndefinedEscape"
kind_name kind.BackReference = codes "BackReference"
kind_name kind.TooDeep = codes "TooDeep"
kind_name kind.TooLarge = codes "TooLarge"
kind_name kind.Memory = codes "Memory"

-- the message on a pattern that is refused; patterns are counted from 1 over all of them
abbrev pub pattern_refused : ℕ → PatternFault → Text
pattern_refused place fault =
    codes "grep: pattern " ++ decimal (place + 1) ++ codes ": " ++ kind_name fault.kind ++
    codes " at " ++ decimal fault.at

unfoldable pub fault_text : UsageFault → Text
fault_text (UnknownOption c) = codes "grep: unknown option -" ++ encode_utf8 c
fault_text (MissingArgument c) =
    codes "grep: option -" ++ encode_utf8 c ++ codes " needs an argument"
fault_text (BadNumber c) = codes "grep: option -" ++ encode_utf8 c ++ codes " needs a number"
fault_text TwoSyntaxes = codes "grep: -E and -F together"
fault_text NoPattern = codes "grep: no pattern"
fault_text Memory = out_of_memory

unfoldable pub usage : Text
usage =
    codes "usage: grep [-E|-F] [-cilnoqsvx] [-A NUM] [-B NUM] [-C NUM] " ++
    codes "[-e LIST]... [-f FILE]... [LIST] [FILE...]"

-- how the command is used (XCU grep, SYNOPSIS), after a fault of the words themselves
abbrev pub usage_after : UsageFault → List Text
usage_after Memory = []
usage_after _ = usage ∷ []

abbrev pub usage_texts : UsageFault → List Text
usage_texts fault = fault_text fault ∷ usage_after fault
