use Rattle.line_marks.proofs.{Prelude.{◌≡◌, ◌≤◌, ◌+◌, ap, arith, refl, Marked}, lemmas.ReplaceLemmas.{idle_mark, replaced_mark}}
use Rattle.line_marks.proofs.mark.Mark.splice.Goals as goal

pub returns-then-most-eq0 : goal.returns-then-most-eq0
returns-then-most-eq0 c =
    let none : c.args.count ≡ 0 = omega arith in
    rw (← c.self.view_is) (idle_mark _ _ _ _ none (omega arith) c.self.invariant.1)

pub returns : goal.returns
returns c =
    let within : c.args.start + c.args.count ≤ c.self.inside.lines = omega (arith, ap (λ (m : Marked). m.lines) c.self.view_is) in
    rw (← c.self.view_is) (replaced_mark _ _ _ _ (omega arith) c.splice_at.ensures.splices refl refl within (c.splice_at.ensures.fits c.self.inside.known c.self.invariant.1))
