use Rattle.re_ends.proofs.{Prelude.{arith, [], inl, inr, expression_of}, lemmas.GroupLaws.stand_begin}
use Rattle.re_ends.proofs.pass.Pass.begin.Goals as goal

pub returns-clause-at : goal.returns-clause-at
returns-clause-at c = (
  record { steps = c.requires.made.steps; groups = c.requires.made.groups; most = omega (arith, c.requires.made.most, c.clear.ensures.most) },
  record {
    within = elim c.requires.border [ inl is ↦ omega (arith, is) | inr lt ↦ omega (arith, lt.0) ];
    groups = [];
    row = c.first_row-row.ensures;
    stands = rw c.clear.ensures.none (stand_begin (expression_of c.args.asked.now.automaton.now) c.args.asked.now.line.now c.args.end c.requires.border);
  },
)
