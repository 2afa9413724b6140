-- Extended regular expressions of the standard alone (XBD 9.4), as in StandardBasic. A truth value
-- says whether the part is in a group.
use Rattle.std.specs.Prelude.{true, List, [], Bool, Some, ◌∷◌, Option, max, None, ◌++◌, ◌≤◌, codes}
use Rattle.std.specs.Prelude.{IsTrue, false, suc, ℕ}
use Rattle.re_trees.specs.Expression.{Expression, one_of, begin, end, repeat, byte, sequence}
use Rattle.re_trees.specs.{Expression.choice, Bytes.{any_but_nul, Text}}
use Rattle.re_syntax.specs.{Working.StandardIntervals.{HasNoInterval, Interval}, Brackets.IsBracket}
use Rattle.re_syntax.specs.{Escapes.is_undefined, Intervals.IsAllowed, ExtendedTokens.is_ordinary}
use Rattle.re_syntax.specs.Profile.{extended_refused, most_levels}

-- `*`, `+`, `?`, or an interval in braces (XBD 9.4.6)
pub data Duplication : Text → ℕ → Option ℕ → Type 0 where
  star : Duplication (codes "*") 0 None
  plus : Duplication (codes "+") 1 None
  question : Duplication (codes "?") 0 (Some 1)
  interval : {t : Text} {least : ℕ} {most : Option ℕ} → Interval t least most →
      IsAllowed least most → Duplication (codes "{" ++ t ++ codes "}") least most

mutual
  -- branches separated by bars, each a sequence (XBD 9.4.7)
  pub data Branches : Bool → ℕ → Text → Text → List Expression → Type 0 where
    last : {g : Bool} {h : ℕ} {t u : Text} {es : List Expression} → Items g h t u es →
        Branches g h t u (sequence es ∷ [])
    more : {g : Bool} {h k : ℕ} {t u v : Text} {es fs : List Expression} →
        Items g h t (codes "|" ++ u) es → Branches g k u v fs →
        Branches g (max h k) t v (sequence es ∷ fs)

  -- the items of a branch, one after another
  pub data Items : Bool → ℕ → Text → Text → List Expression → Type 0 where
    none : {g : Bool} {t : Text} → Items g 0 t t []
    -- a `^` takes no duplication (XBD 9.4.9)
    anchor : {g : Bool} {h : ℕ} {t u : Text} {es : List Expression} → Items g h t u es →
        Items g h (codes "^" ++ t) u (begin ∷ es)
    item : {g : Bool} {h k : ℕ} {t u v : Text} {e : Expression} {es : List Expression} →
        Item g h t u e → Items g k u v es → Items g (max h k) t v (e ∷ es)

  -- an atom, a group, or an item and a duplication
  pub data Item : Bool → ℕ → Text → Text → Expression → Type 0 where
    bracket : {g : Bool} {t u : Text} {e : Expression} → IsBracket t u e → Item g 0 t u e
    period : {g : Bool} {u : Text} → Item g 0 (codes "." ++ u) u (one_of any_but_nul)
    dollar : {g : Bool} {u : Text} → Item g 0 (codes "$" ++ u) u end
    escaped : {g : Bool} {u : Text} (b : ℕ) → ¬ IsTrue (is_undefined extended_refused b) →
        Item g 0 (codes "\\" ++ b ∷ u) u (byte b)
    ordinary : {g : Bool} {u : Text} (b : ℕ) → IsTrue (is_ordinary g b) →
        Item g 0 (b ∷ u) u (byte b)
    -- a `{` that begins no text of an interval's form
    brace : {g : Bool} {u : Text} → HasNoInterval (codes "}") u →
        Item g 0 (codes "{" ++ u) u (byte 123)
    group : {g : Bool} {h : ℕ} {t u : Text} {es : List Expression} →
        Branches true h t (codes ")" ++ u) es → Item g (suc h) (codes "(" ++ t) u (choice es)
    repeated : {g : Bool} {h : ℕ} {t d u : Text} {e : Expression} {least : ℕ} {most : Option ℕ} →
        Item g h t (d ++ u) e → Duplication d least most →
        Item g (suc h) t u (repeat e least most)

-- the text is such an expression, in no group, and not too deep
pub data IsStandardExtended : Text → Expression → Type 0 where
  as_extended : {h : ℕ} {t : Text} {es : List Expression} → Branches false h t [] es →
      h ≤ most_levels → IsStandardExtended t (choice es)
