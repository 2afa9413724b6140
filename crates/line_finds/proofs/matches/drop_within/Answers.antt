use Rattle.line_finds.proofs.Prelude.{rules, tests, filter_same, is_outside}
use Rattle.line_finds.proofs.matches.drop_within.Goals as goal

pub returns : goal.returns
returns c = filter_same _ (is_outside c.args.from c.args.to) _ (λ x b f' k. search (rules, tests)) _ _ c.retain.ensures.filtered
