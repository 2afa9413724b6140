use Rattle.re_ends.{proofs.{Prelude.{arith, ◌≡◌, ◌+◌, ◌-◌, length, sym, ap}, lemmas.KeptLaws.{get_left, get_last, no_run, one_run}}, specs.Working.Groups.numbers_of}
use Rattle.re_ends.proofs.kept.operation_of.Goals as goal

pub returns-then-count-eq0-clause-op : goal.returns-then-count-eq0-clause-op
returns-then-count-eq0-clause-op c = (omega arith, no_run _ _ c.if-count-eq0.true)

pub returns-then-runs-lt-LISTED-clause-op : goal.returns-then-runs-lt-LISTED-clause-op
returns-then-runs-lt-LISTED-clause-op c = (omega (arith, c.if-runs-lt-LISTED.true), one_run _ _ _ c.if-count-eq1.true c.if-runs-lt-LISTED.true)

pub returns-clause-kept : goal.returns-clause-kept
returns-clause-kept c = λ k list is. rw c.in_ok-push.ensures.items (get_left _ _ k _ is)

pub returns-clause-op : goal.returns-clause-op
returns-clause-op c =
    let at : 32768 + c.len-number.result - 32768 ≡ length c.args.lists.now.items = omega (arith, c.len-number.ensures, c.args.lists.now.ok) in
    (omega (arith, c.if-number-ge-MOST_LISTS.false), (λ low. absurd (omega (arith, low)), λ le. (c.in_ok-list.list, rw (at, c.in_ok-push.ensures.items) (get_last c.args.lists.now.items c.in_ok-list.list), ap numbers_of (sym c.in_ok-list.ensures.items))))
