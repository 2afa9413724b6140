use Rattle.re_match.proofs.Prelude.{false≢true, ◌∙◌}
use Rattle.re_match.proofs.window.run_start.Goals as goal

pub returns-then-not-has-clause-outside : goal.returns-then-not-has-clause-outside
returns-then-not-has-clause-outside c = λ marked. false≢true (c.if-not-has.ensures ∙ marked)
