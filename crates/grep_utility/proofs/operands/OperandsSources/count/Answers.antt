use Rattle.grep_utility.proofs.{Prelude.{sym, ◌∙◌}, lemmas.OperandLemmas.length-sources_named}
use Rattle.grep_utility.proofs.operands.OperandsSources.count.Goals as goal

pub returns : goal.returns
returns g c = c.word_count.ensures ∙ sym (length-sources_named _ _)
