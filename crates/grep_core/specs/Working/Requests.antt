-- What is asked of one file.
use Rattle.std.specs.Prelude.{if◌then◌else◌, Bool, Option, not, None, Some}
use Rattle.{re_syntax.specs.Bytes.Text, grep_core.specs.declared.options.Options.Options}
use Rattle.grep_core.specs.declared.options.Form.TheVariants.{Nothing, Names, Counts, Parts, Lines}
use Rattle.grep_core.specs.declared.options.Form.{TheVariants.Around, Form as AskedForm}
use Rattle.grep_core.specs.Output.{Form, nothing, names, counts, parts, lines, around}

abbrev pub form_of : AskedForm → Form
form_of Nothing = nothing
form_of Names = names
form_of Counts = counts
form_of Parts = parts
form_of Lines = lines
form_of (Around context) = around context

-- a line is selected that is matched, and under `-v` one that is not
abbrev pub selects : Options → Bool → Bool
selects options matched = if options.invert_match then not matched else matched

-- a file's name, where names are shown
abbrev pub name_shown : Bool → Text → Option Text
name_shown many name = if many then Some name else None
