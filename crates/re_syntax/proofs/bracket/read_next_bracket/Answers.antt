use Rattle.re_syntax.{proofs.{Prelude.{◌∙◌, ◌∷◌, ap, err_from_is_err_and}, lemmas.{BracketFaultsReading.{opened_fault, opening_in}, BracketWhole.{passes_since, complement_stands, set_stands}}}, specs.BracketFaults.{matching, non_matching}}
use Rattle.re_syntax.proofs.bracket.read_next_bracket.Goals as goal

pub read_list-requires : goal.read_list-requires
read_list-requires c = record { opened = opening_in c.args.cursor.now c.skip.new.self c.place-opening.ensures c.if-skip.ensures.skipped.same_text }

pub returns-in_err-set-clause-refused : goal.returns-in_err-set-clause-refused
returns-in_err-set-clause-refused c =
    let p = err_from_is_err_and c.from_residual.result c.from_residual.ensures.1 in
    rw (p.1, p.2) (opened_fault c.place-opening.ensures c.if-skip.ensures.skipped (λ kind from f. non_matching f) c.in_err-set.ensures.refused)

pub returns-then-skip-clause-read : goal.returns-then-skip-clause-read
returns-then-skip-clause-read c = complement_stands c.if-skip.ensures.skipped.passed c.in_ok-set.ensures.read

pub read_list-requires-2 : goal.read_list-requires-2
read_list-requires-2 c =
    let past = passes_since c.skip-2.result (rw c.if-skip.ensures.else_same at c.skip-2.ensures.skipped) c.requires in
    record { opened = opening_in c.args.cursor.now c.skip-2.new.self c.place-opening.ensures past.same_text }

pub returns-in_err-set-2-clause-refused : goal.returns-in_err-set-2-clause-refused
returns-in_err-set-2-clause-refused c =
    let p = err_from_is_err_and c.from_residual-in_err-set-2.result c.from_residual-in_err-set-2.ensures.1 in
    let past = passes_since c.skip-2.result (rw c.if-skip.ensures.else_same at c.skip-2.ensures.skipped) c.requires in
    rw (p.1, p.2) (opened_fault c.place-opening.ensures past
    (λ kind from f. matching (λ (r, g). c.if-skip.ensures.skipped (r, past.passed ∙ ap (λ t. 91 ∷ t) g)) f) c.in_err-set-2.ensures.refused)

pub returns-clause-read : goal.returns-clause-read
returns-clause-read c =
    let past = passes_since c.skip-2.result (rw c.if-skip.ensures.else_same at c.skip-2.ensures.skipped) c.requires in
    set_stands past.passed c.if-skip.ensures.skipped c.in_ok-set-2.ensures.read

pub returns-clause-same_text : goal.returns-clause-same_text
returns-clause-same_text c =
    let past = passes_since c.skip-2.result (rw c.if-skip.ensures.else_same at c.skip-2.ensures.skipped) c.requires in
    c.in_ok-set-2.ensures.same_text ∙ past.same_text
