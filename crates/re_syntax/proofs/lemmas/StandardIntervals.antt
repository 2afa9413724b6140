-- Intervals of the standard alone are intervals.
use Rattle.re_syntax.proofs.Prelude.{◌≡◌, ℕ, [], ◌∷◌, ◌++◌, Option, codes, ap, Text, Interval, exactly, at_least, between, up_to, HasNoInterval, HasNoOpenComma}
use Rattle.re_syntax.specs.Working.StandardIntervals.{Interval as StandardInterval, exactly as standard_exactly, at_least as standard_at_least, between as standard_between, HasNoInterval as HasNoStandard}

-- each of the three forms
pub interval-kept : {t : Text} {least : ℕ} {most : Option ℕ} → StandardInterval t least most → Interval t least most
interval-kept (standard_exactly m h) = exactly m h
interval-kept (standard_at_least m h) = at_least m h
interval-kept (standard_between m n h k) = between m n h k

-- where neither a comma nor an interval of the standard follows the brace, no interval does
pub no_interval-kept : {u : Text} → HasNoOpenComma (123 ∷ u) → HasNoStandard (codes "}") u → HasNoInterval (codes "}") u
no_interval-kept {u} lacks h = record { none = λ v least most c. go c.inside least most c.form v c.whole }
  where
    go : (inside : Text) (least : ℕ) (most : Option ℕ) → Interval inside least most → (v : Text) → u ≡ inside ++ (codes "}" ++ v) → ⊥
    go inside least most (exactly m k) v e = h.none m v least most (standard_exactly m k) e
    go inside least most (at_least m k) v e = h.none inside v least most (standard_at_least m k) e
    go inside least most (between m n k l) v e = h.none inside v least most (standard_between m n k l) e
    go inside least most (up_to n k) v e = lacks [] (n ++ (codes "}" ++ v)) (ap (λ x. 123 ∷ x) e)
