use Rattle.gaxtrel.proofs.Prelude.{◌≡◌, false, rules, true}
use Rattle.gaxtrel.proofs.patterns.Patterns.of.Goals as goal

pub returns-then-not-options-clause-made : goal.returns-then-not-options-clause-made
returns-then-not-options-clause-made c = let one : c.args.options.now.lines ≡ false = search rules in rw one c.of_text.ensures.made

pub returns-then-options-clause-made : goal.returns-then-options-clause-made
returns-then-options-clause-made c = let lines : c.args.options.now.lines ≡ true = search rules in rw (lines, c.if-options.true) c.of_each.ensures.made

pub returns-clause-made : goal.returns-clause-made
returns-clause-made c = let lines : c.args.options.now.lines ≡ true = search rules in rw (lines, c.if-options.false) c.of_lines.ensures.made

pub returns-then-not-options-clause-refused : goal.returns-then-not-options-clause-refused
returns-then-not-options-clause-refused c = let one : c.args.options.now.lines ≡ false = search rules in rw one c.of_text.ensures.refused

pub returns-then-options-clause-refused : goal.returns-then-options-clause-refused
returns-then-options-clause-refused c = let lines : c.args.options.now.lines ≡ true = search rules in rw lines c.of_each.ensures.refused

pub returns-clause-refused : goal.returns-clause-refused
returns-clause-refused c = let lines : c.args.options.now.lines ≡ true = search rules in rw lines c.of_lines.ensures.refused
