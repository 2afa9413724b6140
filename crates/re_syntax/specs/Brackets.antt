-- Bracket expressions (XBD 9.3.5). Each relation is between a text that begins with a part, the
-- text after the part, and what the part means.
use Rattle.std.specs.Prelude.{codes, ℕ, drop, ◌≤◌, ◌≢◌, ◌++◌, ◌⊎◌, ◌∷◌, length, ◌≡◌}
use Rattle.re_syntax.specs.declared.bracket.ListPlace.TheVariants.{AfterRange, AfterPoint, First}
use Rattle.{re_syntax.specs.declared.bracket.ListPlace.ListPlace, re_trees.specs.Bytes.Text}
use Rattle.re_trees.specs.Bytes.{Begins, only, nothing, union, class_name, range, Bytes, in_class}
use Rattle.re_trees.specs.{Expression.{Expression, one_of, none_of}, declared.class.Class.Class}

-- a `[` before one of these bytes opens an element that has a name
abbrev pub OpensNamed : Text → Type 0
OpensNamed t = Begins (codes ".") t ⊎ (Begins (codes ":") t ⊎ Begins (codes "=") t)

-- a byte for itself, or `[.c.]`
pub data Point : Text → Text → ℕ → Type 0 where
  bare : {t : Text} (b : ℕ) → (b ≡ 91 → ¬ OpensNamed t) → Point (b ∷ t) t b
  symbol : {t : Text} (b : ℕ) → Point (codes "[." ++ b ∷ codes ".]" ++ t) t b

-- a point that begins no range: a `]` is first; a `-` is first, last, or directly after a range or
-- a class; and a `-` may follow only as the last
pub record MayBeAlone (p : ListPlace) (t after : Text) : Type 0 where
  pub bracket : Begins (codes "]") t → p ≡ First
  pub hyphen : Begins (codes "-") t → (p ≢ AfterPoint) ⊎ Begins (codes "]") after
  pub before_hyphen : Begins (codes "-") after → Begins (codes "-]") after

-- an element at a place of its list, the bytes that it adds, and the place after it
pub data Element (p : ListPlace) : Text → Text → Bytes → ListPlace → Type 0 where
  class : {t : Text} (c : Class) →
      Element p (codes "[:" ++ class_name c ++ codes ":]" ++ t) t (in_class c) AfterRange
  equivalence : {t : Text} (b : ℕ) →
      Element p (codes "[=" ++ b ∷ codes "=]" ++ t) t (only b) AfterRange
  alone : {t v : Text} {b : ℕ} → Point t v b → MayBeAlone p t v → Element p t v (only b) AfterPoint
  -- a `]` and a `-` begin a range only as the first; a `]` ends none; and no range descends
  span : {t v w : Text} {a b : ℕ} → Point t (codes "-" ++ v) a →
      (Begins (codes "]") t ⊎ Begins (codes "-") t → p ≡ First) →
      Point v w b → ¬ Begins (codes "]") v → a ≤ b → Element p t w (range a b) AfterRange

-- the elements of a list from a place on, and the bracket that closes it
pub data Rest : ListPlace → Text → Text → Bytes → Type 0 where
  closing : {p : ListPlace} {u : Text} → p ≢ First → Rest p (codes "]" ++ u) u nothing
  more : {p q : ListPlace} {t v u : Text} {a s : Bytes} → Element p t v a q → Rest q v u s →
      Rest p t u (union a s)

-- `[`, a list of elements and `]`; a caret before the list takes the bytes outside it
pub data IsBracket : Text → Text → Expression → Type 0 where
  matching : {t u : Text} {s : Bytes} → ¬ Begins (codes "^") t → Rest First t u s →
      IsBracket (codes "[" ++ t) u (one_of s)
  non_matching : {t u : Text} {s : Bytes} → Rest First t u s →
      IsBracket (codes "[^" ++ t) u (none_of s)
