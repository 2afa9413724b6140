use Rattle.re_auto.proofs.{Prelude.{ℕ, ◌∙◌, arith, length-set, expression_of, part_of}, lemmas.ClassLemmas.one_marked}
use Rattle.re_auto.proofs.step.automaton.Automaton.bytes.Goals as goal

pub bytes-preserved : goal.bytes-preserved
bytes-preserved c = (
  length-set c.bytes.marks c.bytes.byte c.meets.result ∙ c.bytes.invariant.0,
  one_marked c.bytes.marks c.bytes.byte c.meets.result (λ k. (q : ℕ) × (part_of (expression_of c.args.self.now) 0).takes q k) (omega arith) c.bytes.invariant.1
      (λ h. let (q, held, same) = c.meets.ensures.0 h in (q, (c.taking-taking.ensures.1 q).0 held), λ (q, t). let held = (c.taking-taking.ensures.1 q).1 t in c.meets.ensures.1 (q, held, held)),
)

pub returns : goal.returns
returns c = rw c.of.ensures (c.bytes.invariant.0, λ k lt. c.bytes.invariant.1 k (omega arith))
