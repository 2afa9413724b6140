use Rattle.line_finds.proofs.Prelude.{◌<◌, ℕ, All-map, pair_of}
use Rattle.line_finds.proofs.matches.Matches.are_before.Goals as goal

pub returns : goal.returns
returns c = λ all.
    let Before : ℕ × ℕ → Type 0 = λ x. x.1 < c.args.first in
    rw (c.deref.ensures.value, c.self.view_is) at (All-map Before pair_of c.deref.result.now (c.all_before.ensures all))
