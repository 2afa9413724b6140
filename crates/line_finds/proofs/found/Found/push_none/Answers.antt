use Rattle.line_finds.proofs.{Prelude.{◌≡◌, ◌+◌, ◌∷◌, [], false, ◌∙◌, length, ap, subst, arith, length-append, finds_at, no_finds}, lemmas.FoundLaws.{marks_next, paired_next, below_next, found_none}}
use Rattle.line_finds.proofs.found.Found.push_none.Goals as goal

pub invariant_of-self-2 : goal.invariant_of-self-2
invariant_of-self-2 c =
    let old = c.self.inside in
    let size = length old.marks.items in
    let is = c.in_ok-add_mark.ensures.ok in
    let many : length c.add_mark.new.marks.items ≡ size + 1 = ap length is ∙ length-append old.marks.items (false ∷ []) in
    record {
      below = rw many (below_next size old.matches c.self.invariant.below);
      marked = marks_next old.matches old.marks.items _ is c.self.invariant.below c.self.invariant.marked;
      hits_are = cc (c.self.invariant.hits_are, paired_next size old.matches c.self.invariant.below);
      few = omega arith;
    }

pub returns-clause-new : goal.returns-clause-new
returns-clause-new c =
    let old = c.self.inside in
    subst (λ n. finds_at (record { size = length c.add_mark.new.marks.items; pairs = old.matches; parts = old.parts }) n ≡ no_finds) (λ i. (c.self.view_is i).size) (found_none (record { size = length c.add_mark.new.marks.items; pairs = old.matches; parts = old.parts }) (length old.marks.items) c.self.invariant.below c.self.invariant.few)
