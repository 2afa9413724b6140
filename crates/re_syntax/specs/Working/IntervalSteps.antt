-- What each step of reading an interval says.
use Rattle.std.specs.Prelude.{◌≡◌, ◌≢◌, ℕ, ◌+◌, ◌≤◌, min, [], ◌∷◌, ◌++◌, length, take, drop, Option}
use Rattle.std.specs.{Prelude.{Some, IsTrue, codes}, List.list_all, Option.option_map}
use Rattle.re_trees.specs.{Bytes.{Text, in_class, Begins}, declared.class.Class.TheVariants.Digit}
use Rattle.re_syntax.specs.Intervals.{IsNumber, value, ClosedInterval}
use Rattle.re_syntax.specs.{declared.interval.Counts.Counts, Profile.most_repeats}

-- the text begins with a byte that no interval's form has
pub record IsNoPart (t : Text) : Type 0 where
  pub not_empty : t ≢ []
  pub no_digit : (b : ℕ) (u : Text) → t ≡ b ∷ u → ¬ IsTrue (in_class Digit b)
  pub no_comma : ¬ Begins (codes ",") t

-- what a reader keeps of a number: all numbers above the limit are one
abbrev pub capped : ℕ → ℕ
capped n = min n (most_repeats + 1)

abbrev pub AreDigits : Text → Type 0
AreDigits t = IsTrue (list_all (in_class Digit) t)

-- the text begins with no digit
abbrev pub HasNoDigit : Text → Type 0
HasNoDigit t = (b : ℕ) (u : Text) → t ≡ b ∷ u → ¬ IsTrue (in_class Digit b)

-- the text begins with n digits and no more
pub record IsDigitCount (t : Text) (n : ℕ) : Type 0 where
  pub within : n ≤ length t
  pub digits : AreDigits (take n t)
  pub stops : HasNoDigit (drop n t)

-- a number goes from one place up to another, and no digit follows it
pub record NumberStands (text : Text) (at count beyond : ℕ) : Type 0 where
  pub within : beyond ≤ length text
  pub digits : Text
  pub number : IsNumber digits
  pub front : drop at text ≡ digits ++ drop beyond text
  pub count_is : count ≡ capped (value digits)
  pub stops : HasNoDigit (drop beyond text)

-- the text does not begin with a number and what closes it
pub record HasNoGreatest (close t : Text) : Type 0 where
  pub none : (n u : Text) → IsNumber n → t ≡ n ++ (close ++ u) → ⊥

-- a number and what closes it go from one place up to another; the number is the greatest count,
-- and the least is 0
pub record GreatestStands (close text : Text) (at : ℕ) (counts : Counts) (beyond : ℕ) : Type 0 where
  pub within : beyond ≤ length text
  pub digits : Text
  pub number : IsNumber digits
  pub front : drop at text ≡ digits ++ (close ++ drop beyond text)
  pub least_is : counts.least ≡ 0
  pub most_is : counts.most ≡ Some (capped (value digits))

-- an interval and what closes it go from one place up to another
pub record IntervalStands (close text : Text) (at : ℕ) (counts : Counts) (beyond : ℕ) : Type 0 where
  pub within : beyond ≤ length text
  pub least : ℕ
  pub most : Option ℕ
  pub stands : ClosedInterval close (drop at text) (drop beyond text) least most
  pub least_is : counts.least ≡ capped least
  pub most_is : counts.most ≡ option_map capped most
