-- What reading a token says.
use Rattle.std.specs.Prelude.{ℕ, ◌<◌, ◌≤◌, ◌&&◌, Bool, length, drop, nat_eq, if◌then◌else◌}
use Rattle.re_syntax.specs.declared.tokens.Token.TheVariants.{Bar, Closing, Times, Opening, Lead}
use Rattle.re_syntax.specs.declared.tokens.Token.{TheVariants.Atom as Atomic, Token as Read}
use Rattle.re_syntax.specs.declared.tokens.{ItemPlace.ItemPlace, Atom.TheVariants.{Set, Not, End}}
use Rattle.re_syntax.specs.{declared.{tokens.Atom.Atom, syntax.Syntax.Syntax}, FirstFaults.IsToken}
use Rattle.re_syntax.specs.Tokens.{closing, Token, atom, opening, lead, times, bar}
use Rattle.re_trees.specs.{Bytes.{any_but_nul, Text, Bytes, only}, Working.Trees.members}
use Rattle.re_trees.specs.Expression.{none_of, Expression, end, one_of}

-- what an atom means
abbrev pub atom_expression : Atom → Expression
atom_expression (Set s) = one_of (members s)
atom_expression (Not s) = none_of (members s)
atom_expression End = end

-- what a byte means outside brackets and escapes
abbrev pub meant_bytes : ℕ → Bytes
meant_bytes b = if nat_eq b 46 then any_but_nul else only b

-- what a token that was read means
abbrev pub token_of : Read → Token
token_of Opening = opening
token_of Closing = closing
token_of Bar = bar
token_of Lead = lead
token_of (Atomic it) = atom (atom_expression it)
token_of (Times counts) = times counts.least counts.most

-- a token goes from one place up to another
pub record Stands (syntax : Syntax) (g : Bool) (p : ItemPlace) (text : Text) (at : ℕ) (token : Read)
    (beyond : ℕ) : Type 0 where
  pub forward : at < beyond
  pub within : beyond ≤ length text
  pub stands : IsToken syntax g p (drop at text) (drop beyond text) (token_of token)

-- what a byte is that is nothing else
abbrev pub byte_token : Bool → ℕ → Token
byte_token g b = if g && nat_eq b 41 then closing else atom (one_of (meant_bytes b))
