use Rattle.line_finds.proofs.Prelude.{rules, tests, filter_same, is_other, Match}
use Rattle.line_finds.proofs.matches.drop_pairs.Goals as goal

pub returns : goal.returns
returns c = filter_same _ (λ (pair : Match). is_other c.args.first c.args.count pair.number) _ (λ x b f' k. search (rules, tests)) _ _ c.retain.ensures.filtered
