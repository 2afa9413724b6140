use Rattle.re_auto.proofs.{Prelude.{arith, ℕ, length-set, ◌∙◌, Has, row_of}, lemmas.ClassLemmas.one_marked}
use Rattle.re_auto.proofs.build.classes.bytes_meeting.Goals as goal

pub bytes-preserved : goal.bytes-preserved
bytes-preserved c = (
  length-set c.bytes.marks c.bytes.c c.meets.result ∙ c.bytes.invariant.0,
  one_marked c.bytes.marks c.bytes.c c.meets.result (λ k. (q : ℕ) × Has c.args.set.now q × Has (row_of c.args.rows.now c.args.width k) q)
      (omega arith) c.bytes.invariant.1 (rw c.row.ensures.is at c.meets.ensures),
)

pub returns : goal.returns
returns c = (c.bytes.invariant.0, λ k lt. c.bytes.invariant.1 k (omega arith))
