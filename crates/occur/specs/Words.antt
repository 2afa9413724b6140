-- What the words of the command line ask for: occur [--states N] [SCRIPT].
use Rattle.std.specs.Prelude.{◌≡◌, ◌≢◌, ◌==◌, Bool, true, not, ⊤, List, [], ◌∷◌, Option, None, Some}
use Rattle.std.specs.Prelude.{Ok, Err, Result, map, option_map, IsSomeAnd, codes, String}
use Rattle.std.specs.{Prelude.{string_bytes, if◌then◌else◌}, Option.option_map_or}
use Rattle.std.specs.Str.Parse.{without_leading_plus, digits_value}
use Rattle.clap.specs.Words.{one_of, Rule, one_text, Row, with_rule, IsUnsignedIn, kind_of}
use Rattle.clap.specs.{Words.{new_rule, new_app, first_of, Text, App}, Kinds.{Kinds, IsAmong}}
use Rattle.clap.specs.declared.builder.value_parser.ValueParser.TheVariants.{Unsigned}
use Rattle.clap.specs.declared.{builder.action.ArgAction.TheVariants.Set, error.Error.Error}
use Rattle.clap.specs.declared.error.kind.ErrorKind.{ErrorKind, TheVariants.OutOfMemory}
use Rattle.{clap.specs.declared.parser.matches.Found.Found, grep_utility.specs.Folder.is_standard}
use Rattle.occur.specs.declared.words.{OccurFault.OccurFault, ScriptRequest.ScriptRequest}
use Rattle.occur.specs.declared.words.OccurFault.TheVariants as fault

abbrev pub texts_of : {Z : Type 0} → List (String Z) → List Text
texts_of words = map string_bytes words

-- the option --states N, from 1 to 65,536; the default is 256
abbrev pub states_rule : Rule
states_rule = record (new_rule (codes "states")) {
  long = Some (codes "states");
  action = Some Set;
  value_names = 1;
  defaults = codes "256" ∷ [];
  parser = Some (Unsigned 1 65536);
}

-- the operand SCRIPT
abbrev pub script_rule : Rule
script_rule = record (new_rule (codes "script")) { action = Some Set; value_names = 1 }

-- the command has a version
abbrev pub with_version : App → App
with_version a = record a { top = record a.top { has_version = true } }

-- the command, to which its library adds the options --help and --version
abbrev pub occur_app : App
occur_app = with_rule (with_rule (with_version (new_app (codes "occur"))) states_rule) script_rule

-- a number of states was found, as the text of a number
abbrev pub HasStates : Found → Type 0
HasStates found =
    (text : Text) × (one_text found (codes "states") ≡ Some text) × IsUnsignedIn 1 65536 text

-- the request is what was found: the number that the option's text means, and the operand
pub record IsChosenBy (rows : List Row) (request : ScriptRequest) : Type 0 where
  pub number : Text
  pub has_number : one_of (codes "states") rows ≡ Some number
  pub states : request.states ≡ digits_value 10 (without_leading_plus number)
  pub script : option_map string_bytes request.script ≡ first_of (codes "script") rows

-- the file that has the script: none if the script is standard input, that is, without an operand
-- or with `-`
abbrev pub script_file : Option Text → Option Text
script_file None = None
script_file (Some name) = if is_standard name then None else Some name

-- the fault for an error of the library
abbrev pub Explains : Error → OccurFault → Type 0
Explains error fault.Memory = kind_of error ≡ OutOfMemory
Explains error (fault.Words reported) = (reported ≡ error) × (kind_of error ≢ OutOfMemory)

-- words are accepted only if no kind of error is possible; a fault of the words has a possible
-- kind, and any other fault is out of memory
abbrev pub ExplainsAmong : Kinds → Result ScriptRequest OccurFault → Type 0
ExplainsAmong kinds (Ok request) = kinds ≡ []
ExplainsAmong kinds (Err fault.Memory) = ⊤
ExplainsAmong kinds (Err (fault.Words error)) =
    (kind_of error ≢ OutOfMemory) × IsAmong (kind_of error) kinds

-- a word that is no option: it does not begin with a hyphen (45)
abbrev pub is_operand : Text → Bool
is_operand [] = true
is_operand (b ∷ rest) = not (b == 45)

abbrev pub is_no_option : Option Text → Bool
is_no_option None = true
is_no_option (Some word) = is_operand word

-- the words `occur`, `occur SCRIPT`, `occur --states N` and `occur --states N SCRIPT`
abbrev pub form_words : Text → Option Text → Option Text → List Text
form_words name None None = name ∷ []
form_words name None (Some script) = name ∷ script ∷ []
form_words name (Some number) None = name ∷ codes "--states" ∷ number ∷ []
form_words name (Some number) (Some script) = name ∷ codes "--states" ∷ number ∷ script ∷ []

-- such words choose the number, or 256, and the script; they are refused only if the number is not
-- from 1 to 65,536
abbrev pub Reads : Option Text → Option Text → Result ScriptRequest OccurFault → Type 0
Reads number script (Ok request) =
    (request.states ≡
    option_map_or (λ text. digits_value 10 (without_leading_plus text)) number 256) ×
    (option_map string_bytes request.script ≡ script)
Reads number script (Err fault.Memory) = ⊤
Reads number script (Err (fault.Words error)) =
    IsSomeAnd number (λ text. IsUnsignedIn 1 65536 text → ⊥)

-- the words ask for this, help or the version, unless memory runs out
abbrev pub AsksFor : ErrorKind → Result ScriptRequest OccurFault → Type 0
AsksFor kind (Ok request) = ⊥
AsksFor kind (Err fault.Memory) = ⊤
AsksFor kind (Err (fault.Words error)) = kind_of error ≡ kind
