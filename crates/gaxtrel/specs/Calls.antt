-- What the calls of the library take and answer.
use Rattle.std.specs.Prelude.{◌≡◌, ℕ, ◌+◌, ◌-◌, ◌*◌, ◌^◌, ◌<◌, ◌≤◌, ◌↔◌, ◌⊎◌, Bool, List, [], ◌∷◌}
use Rattle.std.specs.Prelude.{Option, Some, None, drop, length, map, min, take}
use Rattle.re_syntax.specs.{Holds.Matches, Bytes.Text, Parts.ArePartsFrom, Expression.Expression}
use Rattle.re_syntax.specs.declared.{syntax.Syntax.Syntax, fault.FaultKind.FaultKind}
use Rattle.re_syntax.specs.Lines.{ended_lines_of, lines_of, terminated}
use Rattle.{re_trees.specs.declared.span.Span.Span, re_meter.specs.Meters.{fresh, AddsAtMost}}
use Rattle.{re_meter.specs.Meters.Steps, re_search.specs.Working.Sought.{IsSought, FindsSought}}
use Rattle.re_search.specs.Working.Sought.{Sought}
use Rattle.gaxtrel.specs.declared.{part.GaxtrelPart.GaxtrelPart, work.GaxtrelWork.GaxtrelWork}
use Rattle.gaxtrel.specs.declared.held.Held.{Held, TheVariants.{Patterns, Session}}
use Rattle.gaxtrel.specs.{declared.text_lines.GaxtrelLine.GaxtrelLine, Live.{AnswersText, LiveKept}}
use Rattle.gaxtrel.specs.Kept.{Allows, Kept, Serves, Terms, sought_in, terms_of}
use Rattle.re_syntax.specs.declared.syntax.Syntax.TheVariants as s
use Rattle.re_syntax.specs.declared.fault.FaultKind.TheVariants as f

-- the version: 1,000,000 times its first number, 1,000 times its second, and its third
abbrev pub version : ℕ
version = 1000000

abbrev pub syntax_number : Syntax → ℕ
syntax_number s.Basic = 0
syntax_number s.Extended = 1
syntax_number s.Fixed = 2

-- the numbers of the kinds of faults; memory that is refused is no fault of a pattern
abbrev pub kind_number : FaultKind → ℕ
kind_number f.UnclosedBracket = 1
kind_number f.BadClass = 2
kind_number f.BadCollatingSymbol = 3
kind_number f.BadRange = 4
kind_number f.UnclosedGroup = 5
kind_number f.UnopenedGroup = 6
kind_number f.BadInterval = 7
kind_number f.IntervalTooLarge = 8
kind_number f.NothingToRepeat = 9
kind_number f.TrailingBackslash = 10
kind_number f.UndefinedEscape = 11
kind_number f.BackReference = 12
kind_number f.TooDeep = 13
kind_number f.TooLarge = 14
kind_number f.Memory = 0

-- ---- what is held

abbrev pub patterns_in : Option Held → Option Kept
patterns_in None = None
patterns_in (Some (Patterns kept)) = Some kept
patterns_in (Some (Session live)) = None

abbrev pub session_in : Option Held → Option LiveKept
session_in None = None
session_in (Some (Patterns kept)) = None
session_in (Some (Session live)) = Some live

-- patterns are held on these terms, and they search for this
pub record IsFor (terms : Terms) (held : Option Held) (sought : Sought) : Type 0 where
  pub kept : Kept
  pub is_there : patterns_in held ≡ Some kept
  pub is_on : terms_of kept ≡ terms
  pub serves : Serves terms.apart (sought_in kept) sought

-- ---- items in an array

-- the items in order over the elements of an array, as far as there is room
abbrev pub put_over : {A : Type 0} → List A → List A → List A
put_over [] old = old
put_over (item ∷ items) [] = []
put_over (item ∷ items) (x ∷ old) = item ∷ put_over items old

-- so many items are all of which this holds, and were written over an array in order
abbrev pub Puts : {A : Type 0} → (List A → Type 0) → List A → List A → ℕ → Type 0
Puts {A} Are old new count =
    (all : List A) × Are all × (count ≡ length all) × (new ≡ put_over all old)

-- ---- work

-- the work of one call, as a meter counts it
abbrev pub steps_of : GaxtrelWork → Steps
steps_of work = record { built = work.built; reused = work.reused; passed = work.passed }

-- nothing is held, and no work is shown
abbrev pub IsEmpty : Option Held → GaxtrelWork → Type 0
IsEmpty held work = (held ≡ None) × (steps_of work ≡ fresh)

-- a search of a line by so many matchers
abbrev pub line_cost : ℕ → Text → ℕ
line_cost matchers line = matchers * (length line + 1)

-- the work that is shown is at most that of one search of a line
abbrev pub IsOneSearch : Sought → Text → GaxtrelWork → Type 0
IsOneSearch sought line work =
    AddsAtMost (line_cost (length sought.expressions) line) fresh (steps_of work)

-- ---- how a call ends, by what was held, what is held then, the work that is shown and the answer

module _ (old new : Option Held) (work : GaxtrelWork) (answer : ℕ) where
  -- what the call is for is not held: 3, with what is held as it was, and no work
  abbrev pub IsMisused : Type 0
  IsMisused = (answer ≡ 3) × (new ≡ old) × (steps_of work ≡ fresh)

  -- without a session the call is misused; else the commands of a text are answered, and their
  -- replies counted
  abbrev pub AnswersCommands : Text → ℕ → ℕ → Type 0
  AnswersCommands commands was count =
      (session_in old ≡ None → IsMisused × (count ≡ was))
      × ((before : LiveKept) → session_in old ≡ Some before → (after : LiveKept)
      × (session_in new ≡ Some after) × (count ≡ length after.replies)
      × AnswersText before.state commands fresh after (steps_of work) answer)

  -- without patterns the call is misused; else they are held still, and this holds of them
  abbrev pub Asks : (Terms → Sought → Type 0) → Type 0
  Asks Found = (patterns_in old ≡ None → IsMisused)
      × ((t : Terms) (sought : Sought) → IsFor t old sought → IsFor t new sought × Found t sought)

  -- the same for a line: 5, with what is held as it was, and no work, if it may not be searched;
  -- else the work is at most that of one search, and this holds
  abbrev pub AsksLine : Text → (Terms → Sought → Type 0) → Type 0
  AsksLine line Found = Asks (λ t sought. ((Allows t (length line) → ⊥) × (answer ≡ 5)
      × (new ≡ old) × (steps_of work ≡ fresh))
      ⊎ (Allows t (length line) × IsOneSearch sought line work × Found t sought))

-- a call searches a text from a place on up to this end: that of the text; or that of the whole
-- lines in as many bytes as may be searched
abbrev pub Reaches : Terms → Text → ℕ → ℕ → Type 0
Reaches t text from end =
    (Allows t (length text - from) × (end ≡ length text))
    ⊎ ((most : ℕ) × Allows t most × (Allows t (most + 1) → ⊥) × (from + most < length text)
    × (end ≡ from + length (terminated (ended_lines_of (take most (drop from text))))))

-- a search for the next line of a text: up to the end of that line; without one the whole text
abbrev pub bytes_to_next : Text → Option Span → ℕ
bytes_to_next text None = length text + 1
bytes_to_next text (Some place) = place.end + 1

-- ---- answers

-- the part of a line that a span is
abbrev pub part_at : Span → GaxtrelPart
part_at span = record { start = span.start; end = span.end }

-- 1 if there are some, or 0
abbrev pub Says : ℕ → ℕ → Type 0
Says answer count = (answer < 2) × ((answer ≡ 1) ↔ (1 ≤ count))

-- the same of what was searched of so many bytes: 5 if that isn't all
abbrev pub SaysOf : ℕ → ℕ → ℕ → ℕ → Type 0
SaysOf answer count end bytes = ((end < bytes) × (answer ≡ 5)) ⊎ ((bytes ≤ end) × Says answer count)

-- 1 and the place that was found, or 0
abbrev pub Tells : ℕ → GaxtrelPart → Option Span → Type 0
Tells answer part None = answer ≡ 0
Tells answer part (Some span) = (answer ≡ 1) × (part ≡ part_at span)

-- the same of a search that went up to an end in so many bytes
abbrev pub TellsOf : ℕ → GaxtrelPart → Option Span → ℕ → ℕ → Type 0
TellsOf answer part None end bytes = SaysOf answer 0 end bytes
TellsOf answer part (Some span) end bytes = Tells answer part (Some span)

-- all parts that a line has from a place on
abbrev pub AreParts : Sought → Text → ℕ → List GaxtrelPart → Type 0
AreParts sought line from parts =
    ArePartsFrom sought.expressions line sought.whole from
    (map (λ part. (part.start, part.end)) parts)

-- so many parts that a line has from a place on are all, and were written over an array in order
abbrev pub PutsParts : Sought → Text → ℕ → List GaxtrelPart → List GaxtrelPart → ℕ → Type 0
PutsParts sought line from = Puts (AreParts sought line from)

-- the numbers, from a first one on, of those expressions that match a line
abbrev pub AreNumbers : Bool → Text → List Expression → ℕ → List ℕ → Type 0
AreNumbers whole line [] first numbers = numbers ≡ []
AreNumbers whole line (e ∷ es) first numbers =
    (Matches e line whole
    × ((more : List ℕ) × (numbers ≡ first ∷ more) × AreNumbers whole line es (first + 1) more))
    ⊎ ((Matches e line whole → ⊥) × AreNumbers whole line es (first + 1) numbers)

-- so many expressions match a line, and their numbers, from 0, were written over an array in order
abbrev pub PutsNumbers : Sought → Text → List ℕ → List ℕ → ℕ → Type 0
PutsNumbers sought line = Puts (AreNumbers sought.whole line sought.expressions 0)

-- a place further on
abbrev pub moved : ℕ → Option Span → Option Span
moved from None = None
moved from (Some span) = Some (record { start = from + span.start; end = from + span.end })

-- the place in a text of the first line from a place on that is searched for, found with so much
-- work
pub record FindsLine (sought : Sought) (text : Text) (from : ℕ) (place : Option Span)
    (old new : Steps) : Type 0 where
  pub found : Option Span
  pub finds : FindsSought sought (lines_of (drop from text)) found
  pub is_place : place ≡ moved from found
  pub few : AddsAtMost (length sought.expressions * bytes_to_next (drop from text) found) old new

-- a line; its number is at most 2^64 - 1
abbrev pub line_at : ℕ → ℕ → ℕ → GaxtrelLine
line_at start end number = record { start = start; end = end; number = min number (2 ^ 64 - 1) }

-- the matched lines of a text that begins at a place, its first line with a number
abbrev pub AreLines : Sought → List Text → ℕ → ℕ → List GaxtrelLine → Type 0
AreLines sought [] at number lines = lines ≡ []
AreLines sought (text ∷ texts) at number lines =
    (IsSought sought text
    × ((more : List GaxtrelLine) × (lines ≡ line_at at (at + length text) number ∷ more)
    × AreLines sought texts (at + length text + 1) (number + 1) more))
    ⊎ ((IsSought sought text → ⊥) × AreLines sought texts (at + length text + 1) (number + 1) lines)

-- the place after these lines, of which the first is searched for from a place on
abbrev pub after_lines : ℕ → List GaxtrelLine → ℕ
after_lines from [] = from
after_lines from (line ∷ lines) = after_lines (line.end + 1) lines

-- so many matched lines of a text from a place on were written over an array: all, or as many as
-- there is room for, and then nothing after these was searched
pub record PutsLines (sought : Sought) (text : Text) (from number : ℕ) (old new : List GaxtrelLine)
    (count : ℕ) (begun ended : Steps) : Type 0 where
  pub all : List GaxtrelLine
  pub are : AreLines sought (lines_of (drop from text)) from number all
  pub counted : count ≡ min (length old) (length all)
  pub put : new ≡ put_over all old
  pub few : AddsAtMost (length sought.expressions * (length (drop from text) + 1)) begun ended
  pub fewer : count ≡ length old →
      AddsAtMost (length sought.expressions * (after_lines from new - from)) begun ended
