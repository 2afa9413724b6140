use Rattle.line_finds.proofs.{Prelude.{ℕ, ◌-◌, ◌∙◌}, lemmas.MappedLemmas.{mapped_next, mapped_all}}
use Rattle.line_finds.proofs.pieces.lower.Goals as goal

pub loop-start-preserved : goal.loop-start-preserved
loop-start-preserved c = mapped_next (λ (place : ℕ). place - c.args.by) c.args.starts.now c.loop-start.start-index 0 c.loop-start-test.true c.loop-start.invariant c.saturating_sub.ensures

pub returns : goal.returns
returns c = c.loop-start.invariant ∙ mapped_all (λ (place : ℕ). place - c.args.by) c.args.starts.now c.loop-start.start-index c.loop-start-test.false
