use Rattle.{re_match.proofs.{Prelude.{map, byte, sequence, any_literal, look_expression}, lemmas.SetBlocks.passes_whole_too}, re_needle.proofs.lemmas.{NeededLaws.sequence_needed, NeededLines.passes_unmatched}}
use Rattle.re_match.proofs.strings.Look.first_line.Goals as goal

pub returns-in-One-clause-passes : goal.returns-in-One-clause-passes
returns-in-One-clause-passes c =
    rw (c.in-One.is, c.to.ensures) (λ whole. passes_unmatched (sequence (map byte c.in-One.finder)) c.in-One.finder whole (sequence_needed c.in-One.finder) c.args.block.now c.first_line_with-swept.result.start c.first_line_with-swept.ensures.passes)

pub returns-in-Many-clause-passes : goal.returns-in-Many-clause-passes
returns-in-Many-clause-passes c = rw c.in-Many.is (λ whole. passes_whole_too (any_literal c.in-Many.set.value) whole c.args.block.now c.first_line.result.start (rw c.deref.ensures at c.first_line.ensures.passes))

pub returns-in-Many-clause-stops : goal.returns-in-Many-clause-stops
returns-in-Many-clause-stops c = c.first_line.ensures.stops (look_expression c.args.self.now)
