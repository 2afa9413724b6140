-- How words are cut into pieces from the first one on, and what is made of them.
use Rattle.std.specs.Prelude.{Some, List, None, ◌≡◌, Err, Result, Ok, [], Option, map}
use Rattle.std.specs.{String.string_bytes, Borrow.Bor, Str.chars}
use Rattle.re_syntax.specs.Bytes.{Text}
use Rattle.grep_utility.specs.declared.words.tokens.WordTokens.{WordTokens}
use Rattle.grep_utility.specs.declared.words.{PatternSource.PatternSource, Request.Request}
use Rattle.grep_utility.specs.declared.words.UsageFault.{TheVariants.Memory, UsageFault}
use Rattle.grep_utility.specs.Words.{source, texts_of, operand, read, file, Draft, around, pieces}
use Rattle.grep_utility.specs.Words.{Token, list, reads_as, group, flag, fault, PatternsFrom, Asked}
use Rattle.grep_utility.specs.declared.words.PatternSource.TheVariants as given
use Rattle.grep_utility.specs.declared.words.Draft as code_draft
use Rattle.grep_utility.specs.declared.words.tokens.Token as code
use Rattle.grep_utility.specs.declared.words.tokens.Token.TheVariants as piece

-- ---- requests by their texts

abbrev pub given_source : PatternSource → PatternsFrom
given_source (given.List text) = list (string_bytes text)
given_source (given.File name) = file (string_bytes name)

abbrev pub asked : Request → Asked
asked request = record {
  syntax = request.syntax;
  options = request.options;
  sources = map given_source request.sources.items;
  files = texts_of request.files.items;
}

-- the fault is out of memory, or this holds
abbrev pub OrMemory : UsageFault → Type 0 → Type 0
OrMemory Memory P = Unit {0}
OrMemory _ P = P

-- a request is what its words ask for, and a fault is theirs or out of memory
abbrev pub AreRead : List Text → Result Request UsageFault → Type 0
AreRead words (Ok request) = read words ≡ Ok (asked request)
AreRead words (Err f) = OrMemory f (read words ≡ Err f)

-- ---- pieces

abbrev pub token_of : Result code.Token UsageFault → Token
token_of (Ok (piece.Flag f)) = flag f
token_of (Ok (piece.Syntax s)) = reads_as s
token_of (Ok (piece.List text)) = source (list text.now)
token_of (Ok (piece.File name)) = source (file name.now)
token_of (Ok (piece.Around side count)) = around side count
token_of (Ok (piece.Operand text)) = operand text.now
token_of (Err f) = fault f

-- the request and the numbers so far
abbrev pub drafted : code_draft.Draft → Draft
drafted d = record { asked = asked d.request; numbers = d.around }

-- the pieces of words, where these letters of a group are left before them, or `--` was read
abbrev pub tokens_from : Option (Bor Text) → List Text → List Token
tokens_from None words = map operand words
tokens_from (Some letters) words = group (pieces words) (chars letters.now)

-- no letter of a group is left, and no `--` was read
abbrev pub AreUsedUp : Option (Bor Text) → Type 0
AreUsedUp None = ⊥
AreUsedUp (Some letters) = chars letters.now ≡ []

abbrev pub words_left : WordTokens → List Text
words_left p = texts_of p.words.now

abbrev pub tokens_left : WordTokens → List Token
tokens_left p = tokens_from p.letters (words_left p)
