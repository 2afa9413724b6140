-- Interval expressions (XBD 9.3.6 item 5, 9.4.6 item 5): what is between the braces, and its two
-- numbers. The form without a least number is not the standard's but GNU grep's.
use Rattle.std.specs.Prelude.{◌≡◌, ◌≢◌, ℕ, ◌+◌, ◌-◌, ◌*◌, ◌≤◌, min, [], ◌∷◌, ◌++◌, Option, Some}
use Rattle.std.specs.{Prelude.{None, IsTrue, IfSome, codes}, List.list_all}
use Rattle.re_trees.specs.{declared.class.Class.TheVariants.Digit, Bytes.{Text, Begins, in_class}}
use Rattle.re_syntax.specs.Profile.{most_repeats}

abbrev pub value_after : ℕ → Text → ℕ
value_after n [] = n
value_after n (b ∷ t) = value_after (10 * n + (b - 48)) t

-- one or more decimal digits
pub record IsNumber (t : Text) : Type 0 where
  pub not_empty : t ≢ []
  pub digits : IsTrue (list_all (in_class Digit) t)

abbrev pub value : Text → ℕ
value = value_after 0

-- `m`, `m,`, `m,n`, or `,n` for none up to n
pub data Interval : Text → ℕ → Option ℕ → Type 0 where
  exactly : (m : Text) → IsNumber m → Interval m (value m) (Some (value m))
  at_least : (m : Text) → IsNumber m → Interval (m ++ codes ",") (value m) None
  between : (m n : Text) → IsNumber m → IsNumber n →
      Interval (m ++ codes "," ++ n) (value m) (Some (value n))
  up_to : (n : Text) → IsNumber n → Interval (codes "," ++ n) 0 (Some (value n))

-- both numbers are within the limit, and the first is not above the second
pub record IsAllowed (least : ℕ) (most : Option ℕ) : Type 0 where
  pub least_fits : least ≤ most_repeats
  pub most_fits : IfSome most (λ n. n ≤ most_repeats)
  pub ordered : IfSome most (λ n. least ≤ n)

-- the first text begins with something of an interval's form with these numbers, and what closes
-- it; the second text follows
pub record ClosedInterval (close t u : Text) (least : ℕ) (most : Option ℕ) : Type 0 where
  pub inside : Text
  pub form : Interval inside least most
  pub whole : t ≡ inside ++ (close ++ u)

-- the text begins with no interval that this closes
pub record HasNoInterval (close t : Text) : Type 0 where
  pub none : (u : Text) (least : ℕ) (most : Option ℕ) → ¬ ClosedInterval close t u least most
