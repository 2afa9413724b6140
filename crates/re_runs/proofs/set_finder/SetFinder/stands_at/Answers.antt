use Rattle.re_runs.proofs.lemmas.RunLaws.{seen_runs}
use Rattle.re_runs.proofs.set_finder.SetFinder.stands_at.Goals as goal

pub returns : goal.returns
returns c =
    let is = seen_runs c.args.self.now c.self.inside.runs.items c.self.view_is in
    let same = c.deref.ensures.value in (λ yes. rw is (rw same at (c.take_some.ensures.0 yes)), λ o. c.take_some.ensures.1 (rw same (rw is at o)))

pub take_some-requires-clause-bits : goal.take_some-requires-clause-bits
take_some-requires-clause-bits c = rw c.deref.ensures.value (rw (seen_runs c.args.self.now c.self.inside.runs.items c.self.view_is) at c.bits_at.ensures)
