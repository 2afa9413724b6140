use Rattle.re_syntax.{proofs.lemmas.{BracketPoints.{symbol_passed, byte_passed}, BracketFaultsReading.fault_here}, specs.{BracketFaults.{PointFault, symbol, ended}, Working.BracketSteps.from_place}}
use Rattle.re_syntax.proofs.bracket.read_point.Goals as goal

pub returns-in-Some-clause-read : goal.returns-in-Some-clause-read
returns-in-Some-clause-read c = symbol_passed c.if-skip.ensures.skipped c.in-Some.ensures

pub returns-in-None-clause-refused : goal.returns-in-None-clause-refused
returns-in-None-clause-refused c =
    fault_here (PointFault (from_place c.args.opening c.args.cursor.now)) c.args.cursor.now c.place-from.ensures c.if-skip.ensures.skipped.passed (symbol c.in-None.ensures)

pub returns-in-Some-take-clause-read : goal.returns-in-Some-take-clause-read
returns-in-Some-take-clause-read c = byte_passed (rw c.if-skip.ensures.else_same at c.in-Some-take.ensures) c.if-skip.ensures.skipped c.requires.no_class

pub returns-in-None-take-clause-refused : goal.returns-in-None-take-clause-refused
returns-in-None-take-clause-refused c =
    let nothing = rw c.if-skip.ensures.else_same at c.in-None-take.ensures in record { within = c.requires.opened; is_fault = rw nothing ended }
