use Rattle.grep_io.proofs.{Prelude.{◌≤◌, ◌-◌, arith, length-take-le}, lemmas.LimitedLemmas.{limited-Consumes, limited-end}}
use Rattle.grep_io.proofs.devices.limited.LimitedRead.read.Goals as goal

pub returns-clause-bytes : goal.returns-clause-bytes
returns-clause-bytes g c =
    let s = c.args.self.now in
    let n = c.in_ok-count.count in
    let small : n ≤ s.step = omega (arith, c.in_ok-count.ensures.bound.0) in
    let smaller : n ≤ s.left = omega (arith, c.in_ok-count.ensures.bound.0) in (limited-Consumes s.step s.left _ _ _ (length-take-le n _ c.in_ok-count.ensures.bound.1) smaller small c.in_ok-count.ensures.ok, λ none room. limited-end s.step (s.left - n) _ (λ some. c.in_ok-count.ensures.end none room (omega arith)))
