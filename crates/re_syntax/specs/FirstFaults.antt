-- The one cut of a text into tokens, or its one fault: the first from the left that has no token or
-- goes too deep, or a group that is open at the text's end.
use Rattle.std.specs.Prelude.{false, ◌∷◌, ◌+◌, ℕ, max, Bool, ◌≤◌, true, length, List, [], suc, ◌≡◌}
use Rattle.re_syntax.specs.Tokens.{Token, bar, FixedToken, atom, opening, times, closing, lead}
use Rattle.re_syntax.specs.declared.syntax.Syntax.{Syntax, TheVariants.{Basic, Fixed, Extended}}
use Rattle.re_syntax.specs.declared.fault.FaultKind.TheVariants.{TooDeep, UnclosedGroup}
use Rattle.re_syntax.specs.declared.fault.{FaultKind.FaultKind, PatternFault.PatternFault}
use Rattle.re_syntax.specs.declared.tokens.ItemPlace.TheVariants.{First, AfterAnchor, Later}
use Rattle.re_syntax.specs.{declared.tokens.ItemPlace.ItemPlace, Faults.IsAt, Profile.most_levels}
use Rattle.re_syntax.specs.ExtendedTokens.{ExtendedToken, ExtendedTokenFault}
use Rattle.{re_syntax.specs.BasicTokens.{BasicTokenFault, BasicToken}, re_trees.specs.Bytes.Text}

-- a group that is open: the text from its opening on, and the greatest height of the items before
-- it in the expression around it
pub record Around : Type 0 where
  pub from : Text
  pub height : ℕ

-- what is known at a place of a text: the place in its branch, the height of the item that ends
-- there, the greatest height of an item of the innermost expression, and the groups that are open,
-- the innermost first
pub record Context : Type 0 where
  pub place : ItemPlace
  pub last : ℕ
  pub height : ℕ
  pub around : List Around

abbrev pub start : Context
start = record { place = First; last = 0; height = 0; around = [] }

abbrev pub is_group : List Around → Bool
is_group [] = false
is_group (a ∷ outer) = true

-- a group was closed: what is around is as before it, with an item of this height
abbrev pub closed_group : ℕ → List Around → Context → Context
closed_group h [] c = c
closed_group h (a ∷ outer) c =
    record { place = Later; last = h; height = max a.height h; around = outer }

-- what is known after a token that begins the text
abbrev pub after : Text → Token → Context → Context
after t opening c =
    record {
      place = First;
      last = 0;
      height = 0;
      around = record { from = t; height = c.height } ∷ c.around;
    }
after t closing c = closed_group (suc c.height) c.around c
after t bar c = record c { place = First; last = 0 }
after t lead c = record c { place = AfterAnchor; last = 0 }
after t (atom e) c = record c { place = Later; last = 0 }
after t (times least most) c =
    record c { place = Later; last = suc c.last; height = max c.height (suc c.last) }

-- one level more would pass the limit: a group's, or a duplication's
abbrev pub IsTooDeep : Context → Token → Type 0
IsTooDeep c opening = most_levels ≤ length c.around
IsTooDeep c (times least most) = most_levels ≤ c.last + length c.around
IsTooDeep c k = ⊥

-- a token of the syntax: a fixed string's are its bytes
abbrev pub IsToken : Syntax → Bool → ItemPlace → Text → Text → Token → Type 0
IsToken Basic = BasicToken
IsToken Extended = ExtendedToken
IsToken Fixed = FixedToken

-- why no token is at a place
abbrev pub IsTokenFault : Syntax → Bool → ItemPlace → Text → FaultKind → Text → Type 0
IsTokenFault Basic g = BasicTokenFault g
IsTokenFault Extended g = ExtendedTokenFault
IsTokenFault Fixed g = λ p t kind from. ⊥

module _ (syntax : Syntax) where
  -- the text is cut into these tokens, and no group is open at its end
  pub data Cut : Context → Text → List Token → Type 0 where
    whole : {c : Context} → c.around ≡ [] → Cut c [] []
    next : {c : Context} {t u : Text} {k : Token} {ks : List Token} →
        IsToken syntax (is_group c.around) c.place t u k → ¬ IsTooDeep c k →
        Cut (after t k c) u ks → Cut c t (k ∷ ks)

  -- the first fault from a place on
  pub data FirstFault : Context → Text → FaultKind → Text → Type 0 where
    no_token : {c : Context} {t from : Text} {kind : FaultKind} →
        IsTokenFault syntax (is_group c.around) c.place t kind from → FirstFault c t kind from
    too_deep : {c : Context} {t : Text} (k : Token) (u : Text) →
        IsToken syntax (is_group c.around) c.place t u k → IsTooDeep c k → FirstFault c t TooDeep t
    unclosed : {c : Context} {a : Around} {outer : List Around} → c.around ≡ a ∷ outer →
        FirstFault c [] UnclosedGroup a.from
    later : {c : Context} {t u from : Text} {kind : FaultKind} (k : Token) →
        IsToken syntax (is_group c.around) c.place t u k → ¬ IsTooDeep c k →
        FirstFault (after t k c) u kind from → FirstFault c t kind from

-- the whole text is cut into these tokens
abbrev pub IsCut : Syntax → Text → List Token → Type 0
IsCut syntax = Cut syntax start

abbrev pub IsFirstFault : Syntax → Text → PatternFault → Type 0
IsFirstFault syntax text = IsAt (FirstFault syntax start text) text
