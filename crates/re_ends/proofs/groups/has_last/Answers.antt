use Rattle.{re_ends.proofs.Prelude.{arith, length, ◌-◌}, std.proofs.lemmas.Bool.{eqb-true, eq-eqb}}
use Rattle.re_ends.proofs.lemmas.ClosingLaws as laws
use Rattle.re_ends.proofs.groups.has_last.Goals as goal

pub returns-then-count-gt0 : goal.returns-then-count-gt0
returns-then-count-gt0 c = (
  (λ h. let (q, names) = c.requires.full (length c.args.row.now - 1) (omega (arith, c.if-count-gt0.true)) in (q, (length c.args.row.now - 1, omega (arith, c.if-count-gt0.true), eqb-true _ _ h, names))),
  (λ (q, here). eq-eqb _ _ (laws.group_last c.requires c.if-count-gt0.true q here)),
)
