use Rattle.re_search.proofs.{Prelude.{inr, arith}, lemmas.ReadingLaws.{tree_read, too_many}}
use Rattle.re_search.proofs.pattern.read_small.Goals as goal

pub returns-then-branch-gt-MOST_POSITIONS-clause-refused : goal.returns-then-branch-gt-MOST_POSITIONS-clause-refused
returns-then-branch-gt-MOST_POSITIONS-clause-refused c = inr (too_many c.args.syntax c.args.fold c.args.text.now c.in_ok-count_positions.field-0 c.fault_at_first.result c.requires c.in_ok-count_positions.ensures.counted c.if-branch-gt-MOST_POSITIONS.true c.fault_at_first.ensures)

pub returns-then-count-gt-MOST_POSITIONS-clause-refused : goal.returns-then-count-gt-MOST_POSITIONS-clause-refused
returns-then-count-gt-MOST_POSITIONS-clause-refused c = inr (too_many c.args.syntax c.args.fold c.args.text.now c.in_ok-tree.count c.fault_at_first-then-count-gt-MOST_POSITIONS.result c.requires (record { expression = _; spelled = c.in_ok-tree.ensures.read; counted = c.in_ok-tree.ensures.counted }) c.if-count-gt-MOST_POSITIONS.true c.fault_at_first-then-count-gt-MOST_POSITIONS.ensures)

pub returns-clause-read : goal.returns-clause-read
returns-clause-read c = tree_read c.args.syntax c.args.fold c.args.text.now c.in_ok-tree.tree c.in_ok-tree.count c.requires c.in_ok-tree.ensures.read c.in_ok-tree.ensures.counted (omega (arith, c.if-count-gt-MOST_POSITIONS.false))
