use Rattle.line_finds.proofs.{Prelude.{◌∙◌, ap, numbers_at, is_other, left_numbers, lowered, pairs_of}, lemmas.PairLaws.{left_numbers_are, left_below_too, all_left}}
use Rattle.line_finds.proofs.matches.Matches.drop_numbers.Goals as goal

pub returns-clause-numbers : goal.returns-clause-numbers
returns-clause-numbers c = λ k.
    ap (λ l. numbers_at k (pairs_of l)) c.drop_patterns.ensures ∙ left_numbers_are (is_other c.args.first c.args.count) (lowered c.args.first c.args.by) k c.self.inside.pairs.items ∙ ap (λ l. left_numbers c.args.first c.args.count c.args.by (numbers_at k l)) c.self.view_is

pub returns-clause-within : goal.returns-clause-within
returns-clause-within c = λ size h.
    rw c.drop_patterns.ensures (left_below_too (is_other c.args.first c.args.count) (lowered c.args.first c.args.by) size c.self.inside.pairs.items (rw c.self.view_is h))

pub returns-clause-same : goal.returns-clause-same
returns-clause-same c = λ h.
    ap pairs_of (c.drop_patterns.ensures ∙ all_left c.args.first c.args.count c.args.by c.self.inside.pairs.items (rw c.self.view_is h)) ∙ c.self.view_is
