-- The expression that the text of a pattern spells, and the one that it means (XCU grep, OPTIONS
-- -E, -F, -i). The text is cut into tokens, and these are read by one grammar for all syntaxes (XBD
-- 9.5.2, 9.5.3).
use Rattle.std.specs.Prelude.{◌∷◌, true, Bool, Option, ◌≡◌, List, if◌then◌else◌, ◌++◌, ℕ, []}
use Rattle.re_syntax.specs.Tokens.{atom, Token, opening, bar, times, lead, closing}
use Rattle.re_syntax.specs.declared.syntax.Syntax.{TheVariants.{Fixed, Extended, Basic}, Syntax}
use Rattle.{re_syntax.specs.FirstFaults.IsCut, re_trees.specs.{Bytes.Text, Holds.folded}}
use Rattle.re_trees.specs.Expression.{Expression, begin, repeat, sequence, choice}

mutual
  -- branches separated by bars, each a sequence
  pub data Branches : List Token → List Expression → Type 0 where
    last : {ks : List Token} {es : List Expression} → Items ks es → Branches ks (sequence es ∷ [])
    more : {ks ls : List Token} {es fs : List Expression} → Items ks es → Branches ls fs →
        Branches (ks ++ bar ∷ ls) (sequence es ∷ fs)

  -- the items of a branch, one after another; a `^` that is an anchor takes no duplication
  pub data Items : List Token → List Expression → Type 0 where
    none : Items [] []
    anchor : {ks : List Token} {es : List Expression} → Items ks es → Items (lead ∷ ks) (begin ∷ es)
    item : {ks ls : List Token} {es : List Expression} {e : Expression} → Item ks e → Items ls es →
        Items (ks ++ ls) (e ∷ es)

  -- an atom, a group, or an item and a duplication
  pub data Item : List Token → Expression → Type 0 where
    single : (e : Expression) → Item (atom e ∷ []) e
    group : {ks : List Token} {es : List Expression} → Branches ks es →
        Item (opening ∷ ks ++ closing ∷ []) (choice es)
    repeated : {ks : List Token} {e : Expression} (least : ℕ) (most : Option ℕ) → Item ks e →
        Item (ks ++ times least most ∷ []) (repeat e least most)

-- the text is cut into tokens of the syntax, and these are read as the branches of the expression
pub data IsSpelled (syntax : Syntax) (text : Text) : Expression → Type 0 where
  by_tokens : {ks : List Token} {es : List Expression} → IsCut syntax text ks → Branches ks es →
      IsSpelled syntax text (choice es)

-- the text spells no other expression than this
abbrev pub SpellsNoOther : Syntax → Text → Expression → Type 0
SpellsNoOther syntax text e = (other : Expression) → IsSpelled syntax text other → other ≡ e

-- the expression that a text means, with both cases of each letter where `fold` is set
abbrev pub IsMeant : Syntax → Bool → Text → Expression → Type 0
IsMeant syntax fold text e =
    (s : Expression) × IsSpelled syntax text s × (e ≡ (if fold then folded s else s))

-- whether an expression's size is limited: a fixed string's is only where case is folded
abbrev pub has_limit : Syntax → Bool → Bool
has_limit Fixed fold = fold
has_limit Basic fold = true
has_limit Extended fold = true
