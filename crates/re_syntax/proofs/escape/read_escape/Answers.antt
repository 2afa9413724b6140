use Rattle.re_syntax.proofs.lemmas.EscapeLaws.{escape_stands, refused_escape, trailing_backslash}
use Rattle.re_syntax.proofs.escape.read_escape.Goals as goal

pub returns-in-None-clause-refused : goal.returns-in-None-clause-refused
returns-in-None-clause-refused c = trailing_backslash _ _ c.requires c.in-None.ensures

pub returns-in-None-escape_fault-clause-read : goal.returns-in-None-escape_fault-clause-read
returns-in-None-escape_fault-clause-read c =
    escape_stands c.requires c.in-Some.ensures c.in-None-escape_fault.ensures

pub returns-in-Some-escape_fault-clause-refused : goal.returns-in-Some-escape_fault-clause-refused
returns-in-Some-escape_fault-clause-refused c =
    refused_escape _ _ _ _ c.requires c.in-Some.ensures c.in-Some-escape_fault.ensures
