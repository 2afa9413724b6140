-- The headline: after every list of edits, what is written for a session and its status are those
-- that grep's definition gives from scratch for the files, patterns and options that the accepted
-- edits leave;
-- an edit is refused only for its named cause, and a refused edit changes nothing.
use Rattle.std.specs.Prelude.{◌≡◌, ℕ, List, [], ◌∷◌, ◌++◌, Option, Result, Ok, Err, IfOk}
use Rattle.re_syntax.specs.{Bytes.Text, Expression.Expression}
use Rattle.grep_core.specs.{declared.status.Status.Status, Written.Writes, Output.{written, Out}}
use Rattle.grep_core.specs.{Files.{Inputs, Mean}, Messages.{StatusOf, Messages}}
use Rattle.grep_session.specs.Edits.{Edit, Applies, EditGives, no_inputs}
use Rattle.grep_session.specs.declared.fault.EditFault.{EditFault}

-- what grep writes to standard output and to standard error for these inputs, and its status (XCU
-- grep, STDOUT, STDERR and EXIT STATUS)
pub record GrepGives (inputs : Inputs) : Type 0 where
  pub out : List Text
  pub reported : List Text
  pub status : Status
  pub es : List Expression
  pub are_meant : Mean inputs es
  pub is_output : Out es inputs.options inputs.files out
  pub are_messages : Messages es inputs.options inputs.files reported
  pub is_status : StatusOf es inputs.options inputs.files status

module _ {W : Type 0} (contents : W → Option Text) (failures : W → ℕ) (inputs : Inputs)
    (margin : Text) (old new : W) where
  -- the output was written, each line after the margin, and the answer is the status; or a write
  -- failed, and a beginning of the output was written
  pub record ReportsInputs {E : Type 0} (result : Result Status E) : Type 0 where
    pub grep : GrepGives inputs
    pub wrote : Writes contents failures old new (written margin grep.out) result
    pub answered : IfOk result (λ answer. answer ≡ grep.status)

  -- the messages were written, each after the margin; or a write failed, and a beginning of them
  -- was written
  pub record ReportsAllInputs {T E : Type 0} (result : Result T E) : Type 0 where
    pub grep : GrepGives inputs
    pub wrote : Writes contents failures old new (written margin grep.reported) result

pub record IsStatusOfInputs (inputs : Inputs) (status : Status) : Type 0 where
  pub grep : GrepGives inputs
  pub answered : status ≡ grep.status

pub record Attempt : Type 0 where
  pub edit : Edit
  pub answer : Result (Unit {0}) EditFault

-- the attempts, one after the other, lead from old to new inputs, each as its edit promises
abbrev pub ComesTo : List Attempt → Inputs → Inputs → Type 0
ComesTo [] old new = new ≡ old
ComesTo (attempt ∷ more) old new =
    (between : Inputs) × EditGives attempt.edit old between attempt.answer ×
    ComesTo more between new

abbrev pub with_accepted : Edit → Result (Unit {0}) EditFault → List Edit → List Edit
with_accepted edit (Ok done) edits = edit ∷ edits
with_accepted edit (Err fault) edits = edits

abbrev pub accepted : List Attempt → List Edit
accepted [] = []
accepted (attempt ∷ more) = with_accepted attempt.edit attempt.answer (accepted more)

-- the edits, one after the other, are accepted and lead from old to new inputs
abbrev pub Makes : List Edit → Inputs → Inputs → Type 0
Makes [] old new = new ≡ old
Makes (edit ∷ more) old new =
    (between : Inputs) × Applies edit old (Ok between) × Makes more between new

-- after any attempts on a new session, it holds the inputs that the accepted edits alone leave, and
-- no others;
-- a further edit of these inputs leaves new ones, or is refused for its cause or since memory ran
-- out; and for given inputs grep's output, messages and status are unique
pub record AcceptedEditsDecide : Type 0 where
  pub leave : (tried : List Attempt) (left : Inputs) → ComesTo tried no_inputs left →
      Makes (accepted tried) no_inputs left
  pub one_end : (edits : List Edit) (a b : Inputs) → Makes edits no_inputs a →
      Makes edits no_inputs b → a ≡ b
  pub answers : (tried : List Attempt) (last : Attempt) (new : Inputs) →
      ComesTo (tried ++ last ∷ []) no_inputs new
      → (left : Inputs) × Makes (accepted tried) no_inputs left ×
      EditGives last.edit left new last.answer
  pub one_report : (inputs : Inputs) (a b : GrepGives inputs) →
      (b.out ≡ a.out) × (b.reported ≡ a.reported) × (b.status ≡ a.status)
