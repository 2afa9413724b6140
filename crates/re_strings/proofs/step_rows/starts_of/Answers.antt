use Rattle.re_strings.proofs.{Prelude.{◌≡◌, ◌+◌, ◌<◌, ◌≤◌, ◌∷◌, [], ℕ, length, slice_index, ap, refl, arith, length-append, StepsOn}, lemmas.StepRowLaws.{all_more, root_alone, same_classes}}
use Rattle.re_strings.proofs.step_rows.starts_of.Goals as goal

pub classes-preserved : goal.classes-preserved
classes-preserved c =
    let old = c.classes.starts.cells.items in
    let new = c.push_number.new.numbers.items in
    let next = c.start_of-start.result in
    let inv = c.classes.invariant in
    record {
      classes = same_classes c.classes.starts _ inv.classes refl refl;
      all = inv.all;
      few = omega (arith, ap length c.in_ok-push_number.ensures, length-append old (next ∷ []));
      near = all_more (λ _ m. m < slice_index c.args.trie.now.first.items 1) old new next c.in_ok-push_number.ensures inv.near c.start_of-start.ensures.near;
      right = λ all t. all_more (λ k m. (b : ℕ) → b < 256 → slice_index c.classes.starts.classes.items b ≡ k → StepsOn all 0 b m) old new next c.in_ok-push_number.ensures (inv.right all t)
          (λ b lt is. c.start_of-start.ensures.right all t b (omega (arith, inv.all)) (omega (arith, is)));
    }

pub returns-clause-starts : goal.returns-clause-starts
returns-clause-starts c =
    let inv = c.classes.invariant in
    let full : length c.classes.starts.bytes.items ≤ length c.classes.starts.cells.items = omega (arith, c.classes-test.false) in
    record {
      all = inv.all;
      few = let few = inv.classes.few in omega (arith, inv.all);
      root = λ b lt. let low = inv.classes.within b (omega (arith, inv.all)) in omega arith;
      nodes = root_alone (λ n b m. m < slice_index c.args.trie.now.first.items (n + 1)) (length c.classes.starts.bytes.items) (slice_index c.classes.starts.classes.items) c.classes.starts.cells.items inv.few
          (λ b _ within. inv.near (slice_index c.classes.starts.classes.items b) within);
    }

pub returns-clause-right : goal.returns-clause-right
returns-clause-right c = λ all t.
    let inv = c.classes.invariant in
    root_alone (StepsOn all) (length c.classes.starts.bytes.items) (slice_index c.classes.starts.classes.items) c.classes.starts.cells.items inv.few
    (λ b lt within. inv.right all t (slice_index c.classes.starts.classes.items b) within b lt refl)
