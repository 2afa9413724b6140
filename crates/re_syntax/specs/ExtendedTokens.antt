-- The tokens of extended expressions (XBD 9.4, 9.5.1), and why none is at a place: the fault's
-- kind, and the text from its place on. The truth value says whether a group is open there.
use Rattle.std.specs.Prelude.{Bool, Some, ◌≡◌, Option, ◌++◌, IsTrue, not, None, ℕ, ◌∷◌, ◌≢◌, ◌&&◌}
use Rattle.std.specs.Prelude.{codes}
use Rattle.re_syntax.specs.{IntervalFaults.IsDisallowed, BracketFaults.BracketFault}
use Rattle.re_syntax.specs.Escapes.{is_undefined, is_in}
use Rattle.re_syntax.specs.declared.fault.FaultKind.{TheVariants.NothingToRepeat, FaultKind}
use Rattle.re_syntax.specs.declared.tokens.ItemPlace.{TheVariants.Later, ItemPlace}
use Rattle.re_syntax.specs.Intervals.{Interval, IsAllowed, HasNoInterval, ClosedInterval}
use Rattle.re_syntax.specs.Tokens.{times, opening, closing, atom, lead, Token, bar}
use Rattle.re_syntax.specs.{Brackets.IsBracket, Profile.extended_refused, EscapeFaults.EscapeFault}
use Rattle.re_trees.specs.{Expression.{one_of, Expression, byte, end}, Bytes.{any_but_nul, Text}}

-- `*`, `+`, `?`, or an interval in braces (XBD 9.4.6)
pub data Duplication : Text → ℕ → Option ℕ → Type 0 where
  star : Duplication (codes "*") 0 None
  plus : Duplication (codes "+") 1 None
  question : Duplication (codes "?") 0 (Some 1)
  interval : {t : Text} {least : ℕ} {most : Option ℕ} → Interval t least most →
      IsAllowed least most → Duplication (codes "{" ++ t ++ codes "}") least most

-- whether a byte stands for itself whatever follows it: none of `[.\(*+?|^${`, and `)` only where
-- no group is open (XBD 9.4.3)
abbrev pub is_ordinary : Bool → ℕ → Bool
is_ordinary in_group b =
    not (is_in (codes "[.\\(*+?|^${") b) && not (in_group && is_in (codes ")") b)

pub data ExtendedToken (g : Bool) (p : ItemPlace) : Text → Text → Token → Type 0 where
  opens : {u : Text} → ExtendedToken g p (codes "(" ++ u) u opening
  -- a `)` closes a group only where one is open
  closes : {u : Text} → IsTrue g → ExtendedToken g p (codes ")" ++ u) u closing
  parts : {u : Text} → ExtendedToken g p (codes "|" ++ u) u bar
  leads : {u : Text} → ExtendedToken g p (codes "^" ++ u) u lead
  -- a duplication follows an item
  repeats : {d u : Text} {least : ℕ} {most : Option ℕ} → p ≡ Later → Duplication d least most →
      ExtendedToken g p (d ++ u) u (times least most)
  bracket : {t u : Text} {e : Expression} → IsBracket t u e → ExtendedToken g p t u (atom e)
  period : {u : Text} → ExtendedToken g p (codes "." ++ u) u (atom (one_of any_but_nul))
  dollar : {u : Text} → ExtendedToken g p (codes "$" ++ u) u (atom end)
  escaped : {u : Text} (b : ℕ) → ¬ IsTrue (is_undefined extended_refused b) →
      ExtendedToken g p (codes "\\" ++ b ∷ u) u (atom (byte b))
  ordinary : {u : Text} (b : ℕ) → IsTrue (is_ordinary g b) →
      ExtendedToken g p (b ∷ u) u (atom (byte b))
  -- a `{` that begins no text of an interval's form
  brace : {u : Text} → HasNoInterval (codes "}") u →
      ExtendedToken g p (codes "{" ++ u) u (atom (byte 123))

-- the text begins with a duplication, or with an interval whose numbers are refused
pub data OpensDuplication : Text → Type 0 where
  opens_star : {u : Text} → OpensDuplication (codes "*" ++ u)
  opens_plus : {u : Text} → OpensDuplication (codes "+" ++ u)
  opens_question : {u : Text} → OpensDuplication (codes "?" ++ u)
  opens_interval : {t u : Text} {least : ℕ} {most : Option ℕ} →
      ClosedInterval (codes "}") t u least most → OpensDuplication (codes "{" ++ t)

pub data ExtendedTokenFault (p : ItemPlace) : Text → FaultKind → Text → Type 0 where
  in_bracket : {t from : Text} {kind : FaultKind} → BracketFault t kind from →
      ExtendedTokenFault p t kind from
  in_escape : {t from : Text} {kind : FaultKind} → EscapeFault extended_refused t kind from →
      ExtendedTokenFault p t kind from
  -- a duplication, of any numbers, follows no item
  needs_item : {t : Text} → p ≢ Later → OpensDuplication t →
      ExtendedTokenFault p t NothingToRepeat t
  -- an interval is refused for its numbers
  disallowed : {t u : Text} {least : ℕ} {most : Option ℕ} {kind : FaultKind} → p ≡ Later →
      ClosedInterval (codes "}") t u least most → IsDisallowed kind least most →
      ExtendedTokenFault p (codes "{" ++ t) kind (codes "{" ++ t)
