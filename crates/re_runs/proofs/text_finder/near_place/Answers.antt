use Rattle.{re_runs.proofs.{Prelude.{◌≡◌, ◌+◌, ◌-◌, length, refl, ap, ◌∙◌, arith, eq-eqb, false≢true, take_rest, bit_at_and, get_or, OccursAt}, lemmas.{RunLaws.{run_text, text_run}, NewlineLaws.{occurs_later, occurs_sooner}}}, memchr.proofs.lemmas.ScanLemmas.{unmarked, Nowhere-unset}}
use Rattle.re_runs.proofs.text_finder.near_place.Goals as goal

pub marks-init : goal.marks-init
marks-init c =
    let text = c.args.text.now in let line = c.args.line.now in let start = c.args.start in let some = c.requires.some in
    let last = length text - 1 in
    record {
      each = λ k lt o.
          let here : start + k ≡ start + k + 0 = omega arith in let there : start + last + k ≡ start + k + last = omega arith in
          let first = c.marks_of.ensures.marks.each k lt (eq-eqb _ _ (ap (λ n. get_or line n 0) here ∙ o.reads 0 (omega arith))) in
          let second = c.marks_of-2.ensures.marks.each k (omega arith) (eq-eqb _ _ (ap (λ n. get_or line n 0) there ∙ o.reads last (omega arith))) in
          omega (arith, bit_at_and c.marks_of.result c.marks_of-2.result k, first, second);
      within = λ k set. c.marks_of.ensures.marks.within k (omega (arith, bit_at_and c.marks_of.result c.marks_of-2.result k, set));
    }

pub returns-then-begins_with : goal.returns-then-begins_with
returns-then-begins_with c =
    let within = c.marks.invariant.within _ c.lowest.ensures.set in let room = c.requires.room in
    let place = c.args.start + c.lowest.result in
    let fits : place + 0 ≡ place = omega arith in (
      record { low = omega arith; high = within; before = λ k low high. unmarked c.marks.invariant k low (omega arith) (c.lowest.ensures.below _ (omega arith)) },
      rw fits at (occurs_later c.args.line.now c.args.text.now place (omega arith) 0 (run_text _ _ 0 (rw take_rest at (c.if-begins_with.ensures.0 refl)))),
    )

pub marks-preserved : goal.marks-preserved
marks-preserved c =
    let within = c.marks.invariant.within _ c.lowest.ensures.set in let room = c.requires.room in
    let place = c.args.start + c.lowest.result in let fits : place ≡ place + 0 = omega arith in let bit : c.args.start + c.lowest.result - c.args.start ≡ c.lowest.result = omega arith in
    let none : ¬ OccursAt c.args.line.now c.args.text.now place = λ o. false≢true (rw take_rest at c.if-begins_with.ensures.1 (text_run _ _ 0 (occurs_sooner c.args.line.now c.args.text.now place (omega arith) 0 (rw fits at o)))) in
    record { each = λ k lt o. c.without-left.ensures.kept k (omega arith) (λ is. none (rw (is ∙ bit) at o)) ∙ c.marks.invariant.each k lt o; within = λ k h. c.marks.invariant.within k (c.without-left.ensures.no_more k h) }

pub returns : goal.returns
returns c = Nowhere-unset c.marks.invariant c.marks-test.false
