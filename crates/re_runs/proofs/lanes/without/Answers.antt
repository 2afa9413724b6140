use Rattle.re_runs.proofs.Prelude.{◌≡◌, suc, ◌-◌, ◌*◌, ◌%◌, ◌^◌, ◌<◌, ap, ◌∙◌, arith, w64, bit_not, bit_at_clear_other, bit_at_and, and_pow, and-not, and_comm, pow_pos, pow_mono, two-pow-succ}
use Rattle.re_runs.proofs.lanes.without.Goals as goal

pub returns-clause-kept : goal.returns-clause-kept
returns-clause-kept c k l apart = bit_at_clear_other w64 c.args.marks c.args.bit c.requires.bound k l apart

pub returns-clause-no_more : goal.returns-clause-no_more
returns-clause-no_more c k h = omega (arith, bit_at_and c.args.marks (bit_not w64 (1 * 2 ^ c.args.bit % 2 ^ 64)) k)

pub returns-clause-smaller : goal.returns-clause-smaller
returns-clause-smaller c =
    let m = c.args.marks in let k = c.args.bit in
    let small : 2 ^ k < 2 ^ 64 = omega (arith, two-pow-succ k, pow_pos k, pow_mono {i = suc k} {j = 64} (omega arith)) in
    let one : 1 * 2 ^ k % 2 ^ 64 ≡ 2 ^ k = omega arith in let parts = and-not 64 (2 ^ k) m small c.ranges.marks.fits in
    let there = and_comm _ _ ∙ and_pow m k ∙ ap (λ x. x * 2 ^ k) c.requires.set in
    rw one (omega (arith, and_comm m (2 ^ 64 - 1 - 2 ^ k), pow_pos k))
