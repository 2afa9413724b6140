use Rattle.line_finds.proofs.{Prelude.{◌≡◌, ◌+◌, ◌-◌, false, ◌∙◌, length, replicate, sym, ap, arith, numbers_at, finds_at, paired_before}, lemmas.FoundLaws.{found_same, grown, cut_off}}
use Rattle.line_finds.proofs.found.Found.add_part.Goals as goal

pub renew-self-inside-requires : goal.renew-self-inside-requires
renew-self-inside-requires c =
    let end_is : c.in-Some.end ≡ c.len-size.result + (c.args.to - c.args.from) = omega arith in
    let many = grown c.self.inside.marks.items c.in-Some.end c.in_ok-add_marks.ensures.ok (omega arith) in
    rw (many, end_is) c.in_default-add_all.ensures.within

pub invariant_of-self-2 : goal.invariant_of-self-2
invariant_of-self-2 c =
    let end_is : c.in-Some.end ≡ c.len-size.result + (c.args.to - c.args.from) = omega arith in
    let many = grown c.self.inside.marks.items c.in-Some.end c.in_ok-add_marks.ensures.ok (omega arith) in
    let now = c.renew-self-inside.ensures.size ∙ many ∙ end_is in
    record {
      below = rw now c.in_default-add_all.ensures.within;
      marked = c.renew-self-inside.ensures.marks;
      hits_are = c.renew-self-inside.ensures.hits;
      few = omega (arith, c.in_default-add_all.ensures.parts.few);
    }

pub invariant_of-self-in-Err : goal.invariant_of-self-in-Err
invariant_of-self-in-Err c =
    let same = cut_off c.self.inside.marks.items (replicate (c.in-Some.end - length c.self.inside.marks.items) false) c.len-size.result c.in_ok-add_marks.ensures.ok (omega arith) c.truncate.ensures.items in
    let pairs = c.in-Err.ensures.matches in
    record {
      below = rw same (rw pairs c.self.invariant.below);
      marked = rw same (rw pairs c.self.invariant.marked);
      hits_are = c.self.invariant.hits_are ∙ (λ i. paired_before (length (sym same i)) (sym pairs i));
      few = omega (arith, c.in-Err.ensures.same.few, ap length same, c.len-size.ensures);
    }

pub returns-in-Err-clause-err : goal.returns-in-Err-clause-err
returns-in-Err-clause-err c =
    let same = cut_off c.self.inside.marks.items (replicate (c.in-Some.end - length c.self.inside.marks.items) false) c.len-size.result c.in_ok-add_marks.ensures.ok (omega arith) c.truncate.ensures.items in
    ap length same ∙ (λ i. (c.self.view_is i).size)

pub returns-in-Err-clause-old : goal.returns-in-Err-clause-old
returns-in-Err-clause-old c =
    let size : length c.self.inside.marks.items ≡ c.args.self.now.size = λ i. (c.self.view_is i).size in
    λ k low. found_same (ap (numbers_at k) c.in-Err.ensures.matches) (c.in-Err.ensures.same.old_stay k (omega (arith, c.len-size.ensures))) ∙ ap (λ f. finds_at f k) c.self.view_is

pub returns-clause-size : goal.returns-clause-size
returns-clause-size c =
    let end_is : c.in-Some.end ≡ c.len-size.result + (c.args.to - c.args.from) = omega arith in
    let many = grown c.self.inside.marks.items c.in-Some.end c.in_ok-add_marks.ensures.ok (omega arith) in
    let size : length c.self.inside.marks.items ≡ c.args.self.now.size = λ i. (c.self.view_is i).size in
    omega arith
