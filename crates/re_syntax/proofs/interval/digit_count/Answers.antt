use Rattle.re_syntax.proofs.{Prelude.{rules, get_or}, lemmas.DigitsLaws.{counted, counted-all, digit_from, not_digit}}
use Rattle.re_syntax.proofs.interval.digit_count.Goals as goal

pub returns-in-Some : goal.returns-in-Some
returns-in-Some c =
    counted _ _ (search rules) (λ k below. digit_from (get_or c.args.text.now k 0) (search rules))
    (not_digit (get_or c.args.text.now c.in-Some.count 0) (search rules))

pub returns-in-None : goal.returns-in-None
returns-in-None c = counted-all _ (λ k below. digit_from (get_or c.args.text.now k 0) (search rules))
