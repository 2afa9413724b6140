use Rattle.re_runs.proofs.{Prelude.{rules, and_mask, ◌%◌, ◌/◌, ◌^◌, ◌<◌, length, map, refl, sym, ◌∙◌, arith, false≢true, length-map, members, RunIsAt, sets_of_each}, lemmas.RunLaws.{each_at, none_more}}
use Rattle.re_runs.proofs.runs.take_some.Goals as goal

pub returns-then-is_at : goal.returns-then-is_at
returns-then-is_at c =
    let below : c.runs.number < length c.args.runs.now = search rules in (
      λ _. (c.runs.number, map members c.deref.result.now, omega (arith, length-map c.args.runs.now (λ r. map members r.items)), each_at _ _ _ _ _ below c.index-runs-number.is c.deref.ensures.value, c.is_at.ensures.0 c.if-is_at.true),
      λ _. refl,
    )

pub runs-preserved : goal.runs-preserved
runs-preserved c =
    let below : c.runs.number < length c.args.runs.now = search rules in
    none_more (RunIsAt c.args.line.now c.args.place) (sets_of_each c.args.runs.now) c.runs.number c.runs.invariant
    (λ d o. false≢true (sym c.if-is_at.false ∙ c.is_at.ensures.1 (rw (each_at _ _ d _ _ below c.index-runs-number.is c.deref.ensures.value) at o)))

pub returns : goal.returns
returns c = (λ t. absurd (false≢true t), λ (n, run, lt, at, is). absurd (c.runs.invariant n run (omega (arith, length-map c.args.runs.now (λ r. map members r.items))) (rw (sym at) at is)))

pub runs-preserved-then-bits-number-eq0 : goal.runs-preserved-then-bits-number-eq0
runs-preserved-then-bits-number-eq0 c =
    none_more (RunIsAt c.args.line.now c.args.place) (sets_of_each c.args.runs.now) c.runs.number c.runs.invariant (λ d there.
    let has = c.requires.bits c.runs.number d (omega (arith, length-map c.args.runs.now (λ r. map members r.items))) there in
    absurd (omega (arith, has, c.if-bits-number-eq0.true, and_mask (c.args.bits / 2 ^ (c.runs.number % 8)) 1)))
