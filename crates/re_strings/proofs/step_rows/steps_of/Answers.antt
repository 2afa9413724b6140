use Rattle.re_strings.proofs.{Prelude.{◌+◌, ◌<◌, ◌∷◌, [], ℕ, length, slice_index, ap, refl, arith, length-append, StepsOn}, lemmas.StepRowLaws.{same_classes, with_more}}
use Rattle.re_strings.proofs.step_rows.steps_of.Goals as goal

pub cells-preserved : goal.cells-preserved
cells-preserved c =
    let old = c.cells.steps.cells.items in
    let new = c.push_number.new.numbers.items in
    let next = c.next_of-next.result in
    let inv = c.cells.invariant in
    let width = length c.cells.steps.bytes.items in
    let class = slice_index c.cells.steps.classes.items in
    let fits : (b : ℕ) → b < 256 → class b < width = λ b lt. inv.classes.within b (omega (arith, inv.steps.all)) in
    record {
      bytes = inv.bytes;
      classes = same_classes c.cells.steps _ inv.classes refl refl;
      steps = record {
        all = inv.steps.all;
        few = inv.steps.few;
        root = λ b lt. let low = inv.steps.root b lt in omega (arith, ap length c.in_ok-push_number.ensures, length-append old (next ∷ []));
        nodes = with_more (λ n b m. m < slice_index c.args.trie.now.first.items (n + 1)) width class old new next c.in_ok-push_number.ensures fits inv.steps.nodes (λ b lt is. c.next_of-next.ensures.near);
      };
      right = λ all t starts fails.
          with_more (StepsOn all) width class old new next c.in_ok-push_number.ensures fits (inv.right all t starts fails)
          (λ b lt is. c.next_of-next.ensures.right all t (inv.right all t starts fails) fails b lt is);
    }
