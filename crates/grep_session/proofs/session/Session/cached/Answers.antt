use Rattle.grep_session.proofs.session.Session.cached.Goals as goal

pub kept_by-requires : goal.kept_by-requires
kept_by-requires c = rw c.deref.ensures.value c.self.invariant.rooms

pub returns-clause-within : goal.returns-clause-within
returns-clause-within c =
    let all = rw c.deref.ensures.value at c.kept_by.ensures in
    rw (← c.self.view_is) (rw c.self.invariant.matchers.counted at all)
