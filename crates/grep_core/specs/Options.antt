-- The options of grep that are set or not (XCU grep, OPTIONS), by their names.
use Rattle.std.specs.Prelude.{Bool, false, None}
use Rattle.grep_core.specs.declared.options.{Flag.Flag, Options.Options}
use Rattle.grep_core.specs.declared.options.Flag.TheVariants as flag

abbrev pub option_of : Flag → Options → Bool
option_of flag.Count options = options.count
option_of flag.IgnoreCase options = options.ignore_case
option_of flag.FilesWithMatches options = options.files_with_matches
option_of flag.LineNumber options = options.line_number
option_of flag.OnlyMatching options = options.only_matching
option_of flag.Quiet options = options.quiet
option_of flag.NoMessages options = options.no_messages
option_of flag.InvertMatch options = options.invert_match
option_of flag.LineRegexp options = options.line_regexp

abbrev pub with_option : Flag → Bool → Options → Options
with_option flag.Count on options = record options { count = on }
with_option flag.IgnoreCase on options = record options { ignore_case = on }
with_option flag.FilesWithMatches on options = record options { files_with_matches = on }
with_option flag.LineNumber on options = record options { line_number = on }
with_option flag.OnlyMatching on options = record options { only_matching = on }
with_option flag.Quiet on options = record options { quiet = on }
with_option flag.NoMessages on options = record options { no_messages = on }
with_option flag.InvertMatch on options = record options { invert_match = on }
with_option flag.LineRegexp on options = record options { line_regexp = on }

abbrev pub no_options : Options
no_options = record {
  count = false;
  ignore_case = false;
  files_with_matches = false;
  line_number = false;
  only_matching = false;
  quiet = false;
  no_messages = false;
  invert_match = false;
  line_regexp = false;
  context = None;
}
