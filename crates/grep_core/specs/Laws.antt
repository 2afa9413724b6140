-- What the definitions promise of themselves.
use Rattle.std.specs.Prelude.{◌≡◌, ◌||◌, IsTrue, ◌↔◌, List, Option, None}
use Rattle.re_syntax.specs.{Expression.Expression, Bytes.Text, declared.syntax.Syntax.Syntax}
use Rattle.grep_core.specs.{declared.options.{Context.Context, Options.Options}, Files.AreMeant}
use Rattle.grep_core.specs.{Files.File, Output.{around, form, Out}, Messages.{Messages, StatusOf}}

-- P holds of one value and of no other
abbrev pub IsOne : {A : Type 0} → (A → Type 0) → Type 0
IsOne {A} P = (x : A) × P x × ((y : A) → P y → y ≡ x)

-- all expressions and files have one output, one list of messages and one status
pub record HasOneAnswer (options : Options) : Type 0 where
  pub one_output : (es : List Expression) (files : List File) → IsOne (Out es options files)
  pub one_list_of_messages : (es : List Expression) (files : List File) →
      IsOne (Messages es options files)
  pub one_status : (es : List Expression) (files : List File) → IsOne (StatusOf es options files)

-- patterns mean at most one list of expressions
abbrev pub MeansOne : Syntax → Options → Type 0
MeansOne syntax options =
    (patterns : List Text) (ds es : List Expression) → AreMeant syntax options patterns ds →
    AreMeant syntax options patterns es → ds ≡ es

-- under `-q`, `-l`, `-c` and `-o` the output is the same with any context, and where none is given
-- no lines are shown around selected ones
pub record ContextIsForLines (options : Options) : Type 0 where
  pub ignored : IsTrue
      (options.quiet || (options.files_with_matches || (options.count || options.only_matching))) →
      (context : Option Context) (es : List Expression) (files : List File) (out : List Text) →
      Out es (record options { context = context }) files out ↔ Out es options files out
  pub none_around : options.context ≡ None → (context : Context) → ¬ (form options ≡ around context)
