use Rattle.grep_session.proofs.lemmas.DroppingLemmas.{file_dropped, kept_dropped}
use Rattle.grep_session.proofs.removal.drop_in_file.Goals as goal

pub returns-in-Some-clause-same : goal.returns-in-Some-clause-same
returns-in-Some-clause-same c = file_dropped _ _ _ _ c.in-Some.is c.drop_number.ensures

pub returns-in-Some-clause-kept : goal.returns-in-Some-clause-kept
returns-in-Some-clause-kept c = λ es options h no_parts kept. kept_dropped es options c.args.p h no_parts c.args.file.now.lines c.in-Some.lines c.drop_number.new.self c.in-Some.is c.drop_number.ensures kept
