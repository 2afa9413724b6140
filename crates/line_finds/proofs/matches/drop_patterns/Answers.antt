use Rattle.line_finds.proofs.{Prelude.{◌<◌, ℕ, All-map, sym, pair_of}, lemmas.PairLaws.all_left}
use Rattle.line_finds.proofs.matches.drop_patterns.Goals as goal

pub returns-then-all_before : goal.returns-then-all_before
returns-then-all_before c =
    let Before : ℕ × ℕ → Type 0 = λ x. x.1 < c.args.first in
    sym (all_left c.args.first c.args.count c.args.by _ (All-map Before pair_of c.args.pairs.now.items (rw c.deref.ensures.value at (c.all_before.ensures c.if-all_before.true))))
