use Rattle.re_syntax.proofs.lemmas.ExtendedTokenReading.{found_opens}
use Rattle.re_syntax.proofs.extended.opens_duplication.Goals as goal

pub returns-in-Ok : goal.returns-in-Ok
returns-in-Ok c = found_opens c.args.text.now c.args.at c.in-Ok.found c.is_some.ensures c.in-Ok.ensures.read
