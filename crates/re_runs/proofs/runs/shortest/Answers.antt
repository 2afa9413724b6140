use Rattle.re_runs.proofs.{Prelude.{◌≡◌, inl, inr, length, refl, ap, arith, cases_lt, length-map, members}, lemmas.RunLaws.each_at}
use Rattle.re_runs.proofs.runs.shortest.Goals as goal

pub runs-preserved : goal.runs-preserved
runs-preserved c = λ n d lt within. elim (cases_lt n c.runs.number) [
  | inl early ↦ omega (arith, c.runs.invariant n d early within)
  | inr late ↦
      let run = c.index-runs-number.result.items in let same : c.runs.number ≡ n = omega arith in
      omega (arith, ap length (rw same at (each_at c.args.runs.now c.runs.number d run c.index-runs-number.result c.runs-test.true c.index-runs-number.is refl)), length-map run members)
]
