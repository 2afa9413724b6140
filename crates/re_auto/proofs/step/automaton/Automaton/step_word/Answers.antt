use Rattle.re_auto.proofs.{Prelude.{expression_of, part_of}, lemmas.{BitLemmas.chained, WordLemmas.next_word}}
use Rattle.re_auto.proofs.step.automaton.Automaton.step_word.Goals as goal

pub returns : goal.returns
returns c = next_word (part_of (expression_of c.args.self.now) 0) c.args.mode _ _ _ _ _ _ c.first_word-first.ensures c.with_followers.ensures (λ q. chained (c.only_word.ensures q) (c.taking.ensures.1 q))
