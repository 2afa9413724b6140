use Rattle.re_ends.{proofs.Prelude.{◌≡◌, ◌<◌, length, slice_index}, specs.Working.Groups.group_of}
use Rattle.re_ends.proofs.lemmas.ClosingLaws as laws
use Rattle.re_ends.proofs.groups.Groups.turn.Goals as goal

pub returns : goal.returns
returns c = λ b same m.
    let lt : c.args.i < length b.after = rw same c.requires.i in
    let other : group_of (slice_index b.after c.args.i) ≡ c.args.group → ⊥ = λ e. c.if-after-i.false (rw same at e) in
    rw (← same) (laws.turned m lt other c.close.new.self (c.close.ensures.made b.e m.made) c.close.ensures.none
    (c.close.ensures.closed b m.made m.closed (laws.is_met m (laws.later m lt other) (laws.below_count m lt other))))
