-- Basic regular expressions of the standard alone (XBD 9.3). Each relation is between a text that
-- begins with a part, the text after the part, and what the part means; a number is the part's
-- height: how deep groups and duplications are nested in it. The law that what the standard defines
-- keeps its meaning uses this; no definition rests on it.
use Rattle.std.specs.Prelude.{Option, ◌≤◌, suc, IsTrue, None, ℕ, ◌++◌, ◌∷◌, codes, max, [], List}
use Rattle.re_trees.specs.{Bytes.{Text, any_but_nul}, Expression.{byte, one_of, Expression}}
use Rattle.re_trees.specs.Expression.{sequence, repeat, end, begin}
use Rattle.re_syntax.specs.{BasicTokens.is_ordinary, Intervals.IsAllowed, Brackets.IsBracket}
use Rattle.re_syntax.specs.declared.tokens.ItemPlace.TheVariants.{First, AfterAnchor, Later}
use Rattle.re_syntax.specs.{declared.tokens.ItemPlace.ItemPlace, Working.StandardIntervals.Interval}
use Rattle.re_syntax.specs.{Profile.{most_levels, basic_escaped}, Escapes.is_undefined}

-- `*`, or an interval in `\{` and `\}` (XBD 9.3.6)
pub data Duplication : Text → ℕ → Option ℕ → Type 0 where
  star : Duplication (codes "*") 0 None
  interval : {t : Text} {least : ℕ} {most : Option ℕ} → Interval t least most →
      IsAllowed least most → Duplication (codes "\\{" ++ t ++ codes "\\}") least most

-- the expression ends here: the text or the group ends
pub data IsAtEnd : Text → Type 0 where
  of_text : IsAtEnd []
  of_group : {t : Text} → IsAtEnd (codes "\\)" ++ t)

mutual
  -- the items of an expression, one after another, from a place on
  pub data Items : ItemPlace → ℕ → Text → Text → List Expression → Type 0 where
    none : {p : ItemPlace} {t : Text} → Items p 0 t t []
    -- a `^` that is first; a `$` that is last
    leading : {h : ℕ} {t u : Text} {es : List Expression} → Items AfterAnchor h t u es →
        Items First h (codes "^" ++ t) u (begin ∷ es)
    trailing : {p : ItemPlace} {t : Text} → IsAtEnd t → Items p 0 (codes "$" ++ t) t (end ∷ [])
    item : {p : ItemPlace} {h k : ℕ} {t u v : Text} {e : Expression} {es : List Expression} →
        Item p h t u e → Items Later k u v es → Items p (max h k) t v (e ∷ es)

  -- an atom, a group, or an item and a duplication
  pub data Item : ItemPlace → ℕ → Text → Text → Expression → Type 0 where
    bracket : {p : ItemPlace} {t u : Text} {e : Expression} → IsBracket t u e → Item p 0 t u e
    period : {p : ItemPlace} {u : Text} → Item p 0 (codes "." ++ u) u (one_of any_but_nul)
    escaped : {p : ItemPlace} {u : Text} (b : ℕ) → ¬ IsTrue (is_undefined basic_escaped b) →
        Item p 0 (codes "\\" ++ b ∷ u) u (byte b)
    ordinary : {p : ItemPlace} {u : Text} (b : ℕ) → IsTrue (is_ordinary p b) →
        Item p 0 (b ∷ u) u (byte b)
    -- a `$` that is not last
    dollar : {p : ItemPlace} {u : Text} → ¬ IsAtEnd u → Item p 0 (codes "$" ++ u) u (byte 36)
    group : {p : ItemPlace} {h : ℕ} {t u : Text} {es : List Expression} →
        Items First h t (codes "\\)" ++ u) es → Item p (suc h) (codes "\\(" ++ t) u (sequence es)
    repeated : {p : ItemPlace} {h : ℕ} {t d u : Text} {e : Expression}
        {least : ℕ} {most : Option ℕ} → Item p h t (d ++ u) e → Duplication d least most →
        Item p (suc h) t u (repeat e least most)

-- the text is such an expression, and not too deep
pub data IsStandardBasic : Text → Expression → Type 0 where
  as_basic : {h : ℕ} {t : Text} {es : List Expression} → Items First h t [] es → h ≤ most_levels →
      IsStandardBasic t (sequence es)
