-- A session's report, messages and status, from scratch; the accepted edits decide them.
use Rattle.{grep_session.proofs.{Prelude.{◌≡◌, ℕ, Bool, List, [], ◌∷◌, ◌++◌, Option, Result, Ok, Err, refl, sym, ◌∙◌, Decides, Text, Expression, Status, Inputs, AreMeant, AnySelected, Messages, StatusOf, Out, EditFault, NoSuchFile, FileIsMissing, OutOfRange, LineHasNewline, NoSuchPattern, Pattern, TooManyPatterns, Memory, Edit, EditGives, no_inputs, GrepGives, ReportsInputs, ReportsAllInputs, IsStatusOfInputs, Attempt, ComesTo, with_accepted, accepted, Makes, AcceptedEditsDecide, Reports, ReportsMessages}, lemmas.EditLaws.Applies-once}, grep_core.proofs.lemmas.{Determined.{Out-determined, Messages-determined, StatusOf-determined}, Exist.{Out-exist, Messages-exist, StatusOf-exist}, LawsHold.means_one}}

-- ---- the report, the messages and the status

module _ (inputs : Inputs) (es : List Expression) (are_meant : AreMeant inputs.syntax inputs.options inputs.patterns es) where
  gives_with : (out reported : List Text) (status : Status) → Out es inputs.options inputs.files out → Messages es inputs.options inputs.files reported → StatusOf es inputs.options inputs.files status → GrepGives inputs
  gives_with out reported status is_output are_messages is_status =
      record { out = out; reported = reported; status = status; es = es; are_meant = are_meant; is_output = is_output; are_messages = are_messages; is_status = is_status }

  module _ {W : Type 0} (contents : W → Option Text) (failures : W → ℕ) (margin : Text) (old new : W) where
    pub reports_inputs : {E : Type 0} (result : Result Status E) → Reports contents failures es inputs.options inputs.files margin old new result → ReportsInputs contents failures inputs margin old new result
    unfolding gives_with
    reports_inputs (Ok status) r =
        let reported = Messages-exist es inputs.options inputs.files in
        record { grep = gives_with _ _ _ r.is_output reported.1 r.is_status; wrote = r.wrote; answered = refl }
    reports_inputs (Err fault) r =
        let reported = Messages-exist es inputs.options inputs.files in
        let status = StatusOf-exist es inputs.options inputs.files in
        record { grep = gives_with _ _ _ r.is_output reported.1 status.1; wrote = r.wrote; answered = tt }

    pub reports_all_inputs : {T E : Type 0} (result : Result T E) → ReportsMessages contents failures es inputs.options inputs.files margin old new result → ReportsAllInputs contents failures inputs margin old new result
    unfolding gives_with
    reports_all_inputs result t =
        let out = Out-exist es inputs.options inputs.files in
        let status = StatusOf-exist es inputs.options inputs.files in
        record { grep = gives_with _ _ _ out.1 t.are_messages status.1; wrote = t.wrote }

  pub status_of_inputs : (status : Status) → StatusOf es inputs.options inputs.files status → IsStatusOfInputs inputs status
  unfolding gives_with
  status_of_inputs status is =
      let out = Out-exist es inputs.options inputs.files in
      let reported = Messages-exist es inputs.options inputs.files in
      record { grep = gives_with _ _ _ out.1 reported.1 is; answered = refl }

-- ---- lists of edits

-- a refused edit changes nothing
refused_same : (edit : Edit) (old new : Inputs) (fault : EditFault) → EditGives {T = Unit {0}} edit old new (Err fault) → new ≡ old
refused_same edit old new NoSuchFile g = g.1
refused_same edit old new FileIsMissing g = g.1
refused_same edit old new OutOfRange g = g.1
refused_same edit old new LineHasNewline g = g.1
refused_same edit old new NoSuchPattern g = g.1
refused_same edit old new (Pattern place fault) g = g.1
refused_same edit old new TooManyPatterns g = g.1
refused_same edit old new Memory g = g

-- one attempt before the edits that were accepted
attempt_first : (edit : Edit) (answer : Result (Unit {0}) EditFault) (edits : List Edit) (old between new : Inputs) → EditGives edit old between answer → Makes edits between new → Makes (with_accepted edit answer edits) old new
attempt_first edit (Ok done) edits old between new g m = (between, g, m)
attempt_first edit (Err fault) edits old between new g m = rw (refused_same _ _ _ _ g) at m

leave_from : (tried : List Attempt) (old left : Inputs) → ComesTo tried old left → Makes (accepted tried) old left
leave_from [] old left c = c
leave_from (attempt ∷ more) old left c = attempt_first attempt.edit attempt.answer (accepted more) old c.0 left c.1 (leave_from more c.0 left c.2)

-- edits that are accepted lead to one end
one_end_from : (edits : List Edit) (old a b : Inputs) → Makes edits old a → Makes edits old b → a ≡ b
one_end_from [] old a b p q = p ∙ sym q
one_end_from (edit ∷ more) old a b p q =
    let same = Applies-once edit old (Ok p.0) (Ok q.0) p.1 q.1 in
    one_end_from more q.0 a b (rw same at p.2) q.2

-- the last attempt, after the others
last_from : (tried : List Attempt) (last : Attempt) (old new : Inputs) → ComesTo (tried ++ last ∷ []) old new → (left : Inputs) × ComesTo tried old left × EditGives last.edit left new last.answer
last_from [] last old new c = (old, refl, rw c.2 c.1)
last_from (attempt ∷ more) last old new c =
    let rest = last_from more last c.0 new c.2 in
    (rest.0, (c.0, c.1, rest.1), rest.2)

-- for given inputs grep's output, messages and status are unique
pub one_report : (inputs : Inputs) (a b : GrepGives inputs) → (b.out ≡ a.out) × (b.reported ≡ a.reported) × (b.status ≡ a.status)
one_report inputs a b =
    let same = means_one inputs.syntax inputs.options inputs.patterns b.es a.es b.are_meant a.are_meant in (
      Out-determined a.es inputs.options inputs.files b.out a.out (rw same at b.is_output) a.is_output,
      Messages-determined a.es inputs.options inputs.files b.reported a.reported (rw same at b.are_messages) a.are_messages,
      StatusOf-determined a.es inputs.options inputs.files b.status a.status (rw same at b.is_status) a.is_status,
    )

pub accepted_edits_decide : AcceptedEditsDecide
accepted_edits_decide = record {
  leave = (λ tried left. leave_from tried no_inputs left);
  one_end = (λ edits a b. one_end_from edits no_inputs a b);
  answers = (λ tried last new c. let found = last_from tried last no_inputs new c in (found.0, leave_from _ _ _ found.1, found.2));
  one_report = one_report;
}

-- what is known of all expressions that the patterns mean, of the same inputs
pub known_of : (inputs shown : Inputs) (some : Bool) → inputs ≡ shown → ((es : List Expression) → AreMeant shown.syntax shown.options shown.patterns es → Decides some (AnySelected es shown.options shown.files)) →
    (es : List Expression) → AreMeant inputs.syntax inputs.options inputs.patterns es → Decides some (AnySelected es inputs.options inputs.files)
known_of inputs shown some same known = rw same known
