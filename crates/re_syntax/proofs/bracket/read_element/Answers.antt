use Rattle.re_syntax.{proofs.{Prelude.◌∙◌, lemmas.{BracketNamed.{class_passed, equivalence_passed}, BracketFaultsReading.fault_here}}, specs.{BracketFaults.{ElementFault, no_class, no_equivalence}, Working.BracketSteps.from_place}}
use Rattle.re_syntax.proofs.bracket.read_element.Goals as goal

pub returns-in-Some-clause-read : goal.returns-in-Some-clause-read
returns-in-Some-clause-read c = rw c.class.ensures (class_passed _ c.if-skip.ensures.skipped c.in-Some.ensures)

pub returns-in-None-clause-refused : goal.returns-in-None-clause-refused
returns-in-None-clause-refused c =
    fault_here (ElementFault (from_place c.args.opening c.args.cursor.now) c.args.place) c.args.cursor.now c.place-from.ensures c.if-skip.ensures.skipped.passed (no_class c.in-None.ensures)

pub returns-in-Some-take_closed_byte-clause-read : goal.returns-in-Some-take_closed_byte-clause-read
returns-in-Some-take_closed_byte-clause-read c =
    let past = rw c.if-skip.ensures.else_same at c.if-skip-2.ensures.skipped in
    rw c.only.ensures (equivalence_passed past c.in-Some-take_closed_byte.ensures)

pub returns-in-None-take_closed_byte-clause-refused : goal.returns-in-None-take_closed_byte-clause-refused
returns-in-None-take_closed_byte-clause-refused c =
    let past = rw c.if-skip.ensures.else_same at c.if-skip-2.ensures.skipped in
    fault_here (ElementFault (from_place c.args.opening c.args.cursor.now) c.args.place) c.args.cursor.now c.place-from.ensures past.passed (no_equivalence c.in-None-take_closed_byte.ensures)

pub read_point_or_range-requires-clause-opened : goal.read_point_or_range-requires-clause-opened
read_point_or_range-requires-clause-opened c = rw (c.if-skip-2.ensures.else_same, c.if-skip.ensures.else_same) c.requires.opened

pub read_point_or_range-requires-clause-no_class : goal.read_point_or_range-requires-clause-no_class
read_point_or_range-requires-clause-no_class c =
    rw (c.if-skip-2.ensures.else_same, c.if-skip.ensures.else_same)
    (record { class = c.if-skip.ensures.skipped; equivalence = rw c.if-skip.ensures.else_same at c.if-skip-2.ensures.skipped })

pub read_point_or_range-requires-clause-goes_on : goal.read_point_or_range-requires-clause-goes_on
read_point_or_range-requires-clause-goes_on c = rw (c.if-skip-2.ensures.else_same, c.if-skip.ensures.else_same) c.requires.goes_on

pub returns-clause-read : goal.returns-clause-read
returns-clause-read c =
    rw (c.if-skip-2.ensures.else_same ∙ c.if-skip.ensures.else_same) at c.read_point_or_range.ensures.read

pub returns-clause-refused : goal.returns-clause-refused
returns-clause-refused c =
    rw (c.if-skip-2.ensures.else_same ∙ c.if-skip.ensures.else_same) at c.read_point_or_range.ensures.refused

pub returns-clause-same_text : goal.returns-clause-same_text
returns-clause-same_text c =
    rw (c.if-skip-2.ensures.else_same ∙ c.if-skip.ensures.else_same) at c.read_point_or_range.ensures.same_text
