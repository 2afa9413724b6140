-- What each step of reading a basic expression's tokens says.
use Rattle.std.specs.Prelude.{◌≡◌, ℕ, ◌++◌, drop, codes}
use Rattle.re_trees.specs.Bytes.{Text, Begins}
use Rattle.re_syntax.specs.declared.tokens.ItemPlace.{TheVariants.Later, ItemPlace}
use Rattle.re_syntax.specs.{Working.Ahead.IsAfter, BasicTokens.{NeedsItem, IsAtEnd}}

-- the text begins with nothing that opens a duplication
pub record OpensNoDuplication (t : Text) : Type 0 where
  pub star : ¬ Begins (codes "*") t
  pub escaped : ¬ NeedsItem t

-- the text begins with no duplication without numbers
pub record HasNoSign (t : Text) : Type 0 where
  pub star : ¬ Begins (codes "*") t
  pub plus : ¬ Begins (codes "\\+") t
  pub question : ¬ Begins (codes "\\?") t

-- a `$` that is last in its branch goes from one place up to another
pub record ComesAfterTail (text : Text) (at beyond : ℕ) : Type 0 where
  pub stands : IsAfter (codes "$") text at beyond
  pub last : IsAtEnd (drop beyond text)

-- the text begins with no `$` that is last
pub record HasNoTail (t : Text) : Type 0 where
  pub none : (u : Text) → t ≡ codes "$" ++ u → ¬ IsAtEnd u

-- no duplication begins the text, nor what would need an item
pub record HasNoTimes (p : ItemPlace) (t : Text) : Type 0 where
  pub star : p ≡ Later → ¬ Begins (codes "*") t
  pub escaped : ¬ NeedsItem t
