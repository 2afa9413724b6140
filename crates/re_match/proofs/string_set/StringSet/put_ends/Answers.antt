use Rattle.{re_ends.proofs.lemmas.FoundEnds.adds_alike, re_match.proofs.lemmas.SetMatches.strings_found}
use Rattle.re_match.proofs.string_set.StringSet.put_ends.Goals as goal

pub returns : goal.returns
returns c = rw (← c.self.view_is) (adds_alike _ _ c.args.line.now c.args.ends.now c.add_ends.new.ends (strings_found _ c.args.line.now c.args.start) (c.add_ends.ensures _ c.self.invariant.1.1))
