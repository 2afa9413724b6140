use Rattle.re_runs.proofs.{Prelude.{◌≡◌, List, Bytes, get_or, map, sym, ◌∙◌, arith, length, false≢true, length-map, members, sets_of_each}, lemmas.RunLaws.{each_at, longest_kept, longest_grown, longest_all}, runs.longest_end.Goals.{then-is_at, else-is_at}}
use Rattle.re_runs.proofs.runs.longest_end.Goals as goal

pub runs-preserved : goal.runs-preserved
runs-preserved c =
    let runs = c.args.runs.now in let run = map members c.as_slice-run.result.now in
    let at : (d : List Bytes) → get_or (sets_of_each runs) c.runs.number d ≡ run = λ d. each_at runs c.runs.number d c.as_slice-run.result.now c.index-runs-number.result c.runs-test.true c.index-runs-number.is c.as_slice-run.ensures.value in
    elim c.if-is_at.branch [
      | then-is_at w ↦
          let long : length c.as_slice-run.result.now ≡ length run = omega (arith, length-map c.as_slice-run.result.now members) in
          rw w.longest-is
          (longest_grown c.args.line.now c.args.place (sets_of_each runs) c.runs.number c.runs.longest run w.later.result (omega (arith, length-map runs (λ r. map members r.items))) at (c.is_at.ensures.0 w.if-is_at.true)
          (omega arith) w.later.ensures.known (rw long at w.later.ensures.one) c.runs.invariant)
      | else-is_at w ↦
          rw w.longest-is (longest_kept _ _ _ _ _ (λ d o. false≢true (sym w.if-is_at.false ∙ c.is_at.ensures.1 (rw (at d) at o))) c.runs.invariant)
    ]

pub returns : goal.returns
returns c = longest_all _ _ _ _ _ (omega (arith, length-map c.args.runs.now (λ r. map members r.items))) c.runs.invariant
