use Rattle.{re_runs.proofs.{Prelude.{◌%◌, arith, length-map, map, members, sets_of_each}, lemmas.RunLaws.seen_runs}, std.proofs.lemmas.Nat.Bits.bit_at_ones}
use Rattle.re_runs.proofs.set_finder.SetFinder.bits_at.Goals as goal

pub returns-then-len-lt2 : goal.returns-then-len-lt2
returns-then-len-lt2 c n d lt there = bit_at_ones 8 (n % 8) (omega arith)

pub returns : goal.returns
returns c =
    let runs = c.self.inside.runs.items in
    rw (seen_runs c.args.self.now runs c.self.view_is) (c.bits_at.ensures (sets_of_each runs) c.self.inside.width (omega (arith, length-map runs (λ r. map members r.items), c.len.ensures)) c.self.invariant.wide c.self.invariant.first)
