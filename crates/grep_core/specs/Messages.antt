-- What grep writes to standard error about files, and its exit status (XCU grep, STDERR and EXIT
-- STATUS).
use Rattle.std.specs.Prelude.{List, IsTrue, Any, ◌++◌, ◌∷◌, codes, ◌||◌, ⊤, ◌≡◌, MatchBool, []}
use Rattle.re_syntax.specs.{Bytes.Text, Expression.Expression}
use Rattle.grep_core.specs.declared.status.Status.TheVariants.{Selected as selected, Error}
use Rattle.grep_core.specs.declared.status.Status.{TheVariants.NoneSelected, Status}
use Rattle.grep_core.specs.{declared.options.Options.Options, Choose.{IfHolds, EachGives}}
use Rattle.grep_core.specs.Files.{whole, Ending, File, HasSelected, broken, missing}

abbrev pub cannot_open : Text → Text
cannot_open name = codes "grep: " ++ name ++ codes ": cannot open"

abbrev pub read_error : Text → Text
read_error name = codes "grep: " ++ name ++ codes ": read error"

abbrev pub message : Ending → Text → List Text
message whole name = []
message missing name = cannot_open name ∷ []
message broken name = read_error name ∷ []

module _ (es : List Expression) (options : Options) where
  -- a failed read is met unless the file was left before it, at a selected line under `-q` or `-l`
  abbrev pub FaultMetBy : Ending → File → Type 0
  FaultMetBy whole file = ⊥
  FaultMetBy missing file = ⊤
  FaultMetBy broken file =
      IsTrue (options.quiet || options.files_with_matches) → HasSelected es options file → ⊥

  abbrev pub FaultMet : File → Type 0
  FaultMet file = FaultMetBy file.ending file

  abbrev pub Stops : File → Type 0
  Stops file = IsTrue options.quiet × HasSelected es options file

  -- the files up to the one at which `-q` stops, or all
  abbrev pub Reached : List File → List File → Type 0
  Reached [] reached = reached ≡ []
  Reached (file ∷ files) reached =
      (rest : List File) × (reached ≡ file ∷ rest)
      × IfHolds (Stops file) (rest ≡ []) (Reached files rest)

  abbrev pub Message : File → List Text → Type 0
  Message file reported = IfHolds (FaultMet file) (reported ≡ message file.ending file.name) (reported ≡ [])

  -- the messages about files that are all reached, and none under `-s`
  abbrev pub Reported : List File → List Text → Type 0
  Reported files reported = MatchBool options.no_messages (reported ≡ []) (EachGives Message files reported)

  -- one message for each file that is reached and whose fault is met, and none under `-s`
  abbrev pub Messages : List File → List Text → Type 0
  Messages files reported =
      MatchBool options.no_messages (reported ≡ [])
      ((reached : List File) × Reached files reached × EachGives Message reached reported)

  abbrev pub AnySelected : List File → Type 0
  AnySelected files = Any (HasSelected es options) files

  -- under `-q` a selected line takes precedence over an error; otherwise an error takes precedence
  -- over all
  abbrev pub StatusOf : List File → Status → Type 0
  StatusOf files status =
      IfHolds (IsTrue options.quiet × AnySelected files) (status ≡ selected)
      (IfHolds (Any FaultMet files) (status ≡ Error)
      (IfHolds (AnySelected files) (status ≡ selected) (status ≡ NoneSelected)))
