-- The tokens of basic expressions (XBD 9.3, 9.5.1), with two duplications and a bar that the
-- standard leaves undefined and GNU grep has, and why none is at a place: the fault's kind, and the
-- text from its place on. The truth value says whether a group is open there.
use Rattle.std.specs.Prelude.{◌≡◌, ◌≢◌, ℕ, Bool, not, ◌&&◌, [], ◌∷◌, ◌++◌, Option, Some, None}
use Rattle.std.specs.Prelude.{IsTrue, codes}
use Rattle.re_syntax.specs.declared.fault.FaultKind.TheVariants.{BadInterval, UnopenedGroup}
use Rattle.re_syntax.specs.declared.fault.FaultKind.{TheVariants.NothingToRepeat, FaultKind}
use Rattle.re_syntax.specs.declared.tokens.ItemPlace.TheVariants.{First, AfterAnchor, Later}
use Rattle.re_syntax.specs.{declared.tokens.ItemPlace.ItemPlace, IntervalFaults.IsDisallowed}
use Rattle.re_syntax.specs.{Profile.{basic_refused, basic_escaped}, EscapeFaults.EscapeFault}
use Rattle.re_syntax.specs.Intervals.{HasNoInterval, Interval, IsAllowed, ClosedInterval}
use Rattle.re_syntax.specs.{BracketFaults.BracketFault, Escapes.{is_in, is_undefined}, Tokens.times}
use Rattle.re_syntax.specs.{Tokens.{atom, bar, Token, lead, closing, opening}, Brackets.IsBracket}
use Rattle.re_trees.specs.{Bytes.{Text, any_but_nul}, Expression.{Expression, one_of, end, byte}}

-- `*`, or an interval in `\{` and `\}` (XBD 9.3.6); `\+` and `\?` as GNU grep has them
pub data Duplication : Text → ℕ → Option ℕ → Type 0 where
  star : Duplication (codes "*") 0 None
  plus : Duplication (codes "\\+") 1 None
  question : Duplication (codes "\\?") 0 (Some 1)
  interval : {t : Text} {least : ℕ} {most : Option ℕ} → Interval t least most →
      IsAllowed least most → Duplication (codes "\\{" ++ t ++ codes "\\}") least most

-- the bytes that have a meaning by their place: `^` where it is first, `*` after an item (XBD
-- 9.3.3, 9.3.8)
abbrev pub marks : ItemPlace → Text
marks First = codes "^"
marks AfterAnchor = []
marks Later = codes "*"

-- whether a byte stands for itself whatever follows it: not `[`, `.`, `\` or `$`, nor a mark of its
-- place
abbrev pub is_ordinary : ItemPlace → ℕ → Bool
is_ordinary p b = not (is_in (codes "[.\\$") b) && not (is_in (marks p) b)

-- a branch ends here: the text ends, the group ends, or another branch follows
pub data IsAtEnd : Text → Type 0 where
  of_text : IsAtEnd []
  of_group : {t : Text} → IsAtEnd (codes "\\)" ++ t)
  of_branch : {t : Text} → IsAtEnd (codes "\\|" ++ t)

pub data BasicToken (g : Bool) (p : ItemPlace) : Text → Text → Token → Type 0 where
  opens : {u : Text} → BasicToken g p (codes "\\(" ++ u) u opening
  closes : {u : Text} → IsTrue g → BasicToken g p (codes "\\)" ++ u) u closing
  parts : {u : Text} → BasicToken g p (codes "\\|" ++ u) u bar
  -- a `^` that is first; a `$` that is last; a `$` that isn't
  leads : {u : Text} → p ≡ First → BasicToken g p (codes "^" ++ u) u lead
  trails : {u : Text} → IsAtEnd u → BasicToken g p (codes "$" ++ u) u (atom end)
  dollar : {u : Text} → ¬ IsAtEnd u → BasicToken g p (codes "$" ++ u) u (atom (byte 36))
  repeats : {d u : Text} {least : ℕ} {most : Option ℕ} → p ≡ Later → Duplication d least most →
      BasicToken g p (d ++ u) u (times least most)
  bracket : {t u : Text} {e : Expression} → IsBracket t u e → BasicToken g p t u (atom e)
  period : {u : Text} → BasicToken g p (codes "." ++ u) u (atom (one_of any_but_nul))
  escaped : {u : Text} (b : ℕ) → ¬ IsTrue (is_undefined basic_escaped b) →
      BasicToken g p (codes "\\" ++ b ∷ u) u (atom (byte b))
  ordinary : {u : Text} (b : ℕ) → IsTrue (is_ordinary p b) →
      BasicToken g p (b ∷ u) u (atom (byte b))

-- a `\{` of any form or none, a `\+` or a `\?`: it never stands for its own bytes, so it needs an
-- item before it
pub data NeedsItem : Text → Type 0 where
  needs_interval : {u : Text} → NeedsItem (codes "\\{" ++ u)
  needs_plus : {u : Text} → NeedsItem (codes "\\+" ++ u)
  needs_question : {u : Text} → NeedsItem (codes "\\?" ++ u)

pub data BasicTokenFault (g : Bool) (p : ItemPlace) : Text → FaultKind → Text → Type 0 where
  in_bracket : {t from : Text} {kind : FaultKind} → BracketFault t kind from →
      BasicTokenFault g p t kind from
  in_escape : {t from : Text} {kind : FaultKind} → EscapeFault basic_refused t kind from →
      BasicTokenFault g p t kind from
  -- a `\)` is in no group
  unopened : {u : Text} → ¬ IsTrue g →
      BasicTokenFault g p (codes "\\)" ++ u) UnopenedGroup (codes "\\)" ++ u)
  -- a `\{` of any form or none, a `\+` or a `\?` follows no item
  needs_item : {t : Text} → p ≢ Later → NeedsItem t → BasicTokenFault g p t NothingToRepeat t
  -- a `\{` begins nothing of an interval's form, or an interval that is refused for its numbers
  no_form : {t : Text} → p ≡ Later → HasNoInterval (codes "\\}") t →
      BasicTokenFault g p (codes "\\{" ++ t) BadInterval (codes "\\{" ++ t)
  disallowed : {t u : Text} {least : ℕ} {most : Option ℕ} {kind : FaultKind} → p ≡ Later →
      ClosedInterval (codes "\\}") t u least most → IsDisallowed kind least most →
      BasicTokenFault g p (codes "\\{" ++ t) kind (codes "\\{" ++ t)
