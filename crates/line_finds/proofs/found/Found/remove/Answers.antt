use Rattle.line_finds.proofs.{Prelude.{◌≡◌, ◌+◌, ◌-◌, ◌≤◌, [], ◌∙◌, length, get_or, ap, arith, length-take, finds_at}, lemmas.FoundLaws.{found_same, kept_before, kept_after, kept_few}}
use Rattle.line_finds.proofs.found.Found.remove.Goals as goal

pub invariant_of-self : goal.invariant_of-self
invariant_of-self c =
    let to = c.args.to in
    let size = length c.self.inside.marks.items in
    let same : size ≡ c.args.self.now.size = λ i. (c.self.view_is i).size in
    let within : to ≤ size = omega arith in
    let many : length c.renew-self-inside.new.marks.items ≡ size - (to - c.args.from) = omega (arith, ap length c.truncate.ensures.items, length-take (c.len.result - (to - c.args.from)) c.self.inside.marks.items) in
    record {
      below = rw many (c.remove_lines.ensures.within size within c.self.invariant.below);
      marked = c.renew-self-inside.ensures.marks;
      hits_are = c.renew-self-inside.ensures.hits;
      few = omega (arith, ap length c.remove.ensures, kept_few [] c.args.from to size c.self.inside.parts c.requires.in_order within c.self.invariant.few);
    }

pub returns-clause-before : goal.returns-clause-before
returns-clause-before c = λ k low. found_same (c.remove_lines.ensures.before k low) (ap (λ l. get_or l k []) c.remove.ensures ∙ kept_before [] c.args.from c.args.to c.self.inside.parts k c.requires.in_order low) ∙ ap (λ f. finds_at f k) c.self.view_is

pub returns-clause-after : goal.returns-clause-after
returns-clause-after c =
    let from = c.args.from in
    let to = c.args.to in
    λ k. found_same (c.remove_lines.ensures.after k) (ap (λ l. get_or l (from + k) []) c.remove.ensures ∙ kept_after [] from to c.self.inside.parts k c.requires.in_order) ∙ ap (λ f. finds_at f (to + k)) c.self.view_is
