use Rattle.grep_session.proofs.Prelude.{◌*◌, ◌≤◌}
use Rattle.grep_session.proofs.caches.kept_by.Given as goal

-- the first matchers keep no more than they may
abbrev pub invariant-loop-matcher : goal.invariant-loop-matcher
invariant-loop-matcher l = l.kept ≤ l.matcher-index * l.each
