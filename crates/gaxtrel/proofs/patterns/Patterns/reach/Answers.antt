use Rattle.gaxtrel.proofs.{Prelude.{◌≡◌, ◌+◌, ◌-◌, inl, inr, ap, arith, length, refl}, KeptLemmas.less_of, TextLemmas.whole_lines}
use Rattle.gaxtrel.proofs.patterns.Patterns.reach.Goals as goal

pub returns-then-from-text-clause-reached : goal.returns-then-from-text-clause-reached
returns-then-from-text-clause-reached c = inl (inr (inl (omega (arith, c.if-from-text.true))), refl)

pub returns-then-end-text-clause-reached : goal.returns-then-end-text-clause-reached
returns-then-end-text-clause-reached c =
    let all : c.most_of.result ≡ length c.args.text.now - c.args.from = omega (arith, c.if-end-text.true) in
    inl (rw all at c.most_of.ensures.within, c.if-end-text.true)

pub returns-clause-reached : goal.returns-clause-reached
returns-clause-reached c =
    let most = c.most_of.result in
    let less = less_of _ _ c.most_of.ensures.few (λ e. c.if-end-text.false (omega (arith, c.if-from-text.false))) in
    let width : c.args.from + most - c.args.from ≡ most = omega arith in
    let lines = rw width at c.last_line.ensures.lines in
    let last = rw width at c.last_line.ensures.last in
    inr (most, c.most_of.ensures.within, c.most_of.ensures.most less, omega arith, ap (λ k. c.args.from + k) (whole_lines _ _ lines last))
