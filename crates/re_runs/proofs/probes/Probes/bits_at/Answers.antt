use Rattle.re_runs.proofs.{Prelude.{rules, ◌<◌, ◌%◌, ℕ, arith, slice_index, bit_and, bit_at_and, Probe, IsProbeOf}, lemmas.RunLaws.bit_there}
use Rattle.re_runs.proofs.probes.Probes.bits_at.Goals as goal

pub returns : goal.returns
returns c runs width several wide are n d lt there =
    let small : (x : ℕ) → slice_index c.args.line.now x < 256 = search rules in
    let has = λ (probe : Probe) (is : IsProbeOf probe width runs). bit_there runs width wide c.args.line.now c.args.place small probe is several n d lt there in
    let first = has c.args.self.now.first are.first c.bits_at.result c.bits_at.ensures in
    let second = has c.args.self.now.second are.second c.bits_at-2.result c.bits_at-2.ensures in
    let third = has c.args.self.now.third are.third c.bits_at-3.result c.bits_at-3.ensures in
    let fourth = has c.args.self.now.fourth are.fourth c.bits_at-4.result c.bits_at-4.ensures in
    let two = bit_and c.bits_at.result c.bits_at-2.result in
    omega (arith, bit_at_and (bit_and two c.bits_at-3.result) c.bits_at-4.result (n % 8), bit_at_and two c.bits_at-3.result (n % 8), bit_at_and c.bits_at.result c.bits_at-2.result (n % 8), first, second, third, fourth)
