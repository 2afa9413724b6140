-- Many fixed strings at once: the tree of their beginnings, each with the longest end of it that is
-- such a beginning too by the Aho-Corasick algorithm.
use Rattle.std.specs.Prelude.{◌≡◌, ℕ, ◌+◌, ◌-◌, ◌*◌, ◌^◌, ◌<◌, ◌≤◌, List, [], ◌∷◌, ◌++◌, length}
use Rattle.std.specs.Prelude.{take, drop, Any, slice_index, Option, nat_eq, nat_lt, if◌then◌else◌}
use Rattle.re_trees.specs.Working.BestStretches.{IsBest, places, better_span}
use Rattle.re_trees.specs.{declared.span.Span.Span, Bytes.{Text, Begins}}
use Rattle.re_strings.specs.declared.{leaps.Leaps.Leaps, aho_corasick.AhoCorasick.AhoCorasick}
use Rattle.re_strings.specs.declared.step_rows.StepRows.{StepRows}

-- some string begins with the text
abbrev pub IsFront : List Text → Text → Type 0
IsFront strings w = Any (λ s. Begins w s) strings

abbrev pub IsString : List Text → Text → Type 0
IsString strings w = Any (λ s. s ≡ w) strings

-- the label is the longest end of the text that begins at place `from` or later and that some
-- string begins with
pub record StandsFor (strings : List Text) (label w : Text) (from : ℕ) : Type 0 where
  pub start : ℕ
  pub low : from ≤ start
  pub high : start ≤ length w
  pub is : label ≡ drop start w
  pub none : (j : ℕ) → from ≤ j → j < start → IsFront strings (drop j w) → ⊥

-- the same as far as it is known before the next byte: no longer end may go on with that byte
pub record MayStandFor (strings : List Text) (label w : Text) (b from : ℕ) : Type 0 where
  pub start : ℕ
  pub low : from ≤ start
  pub high : start ≤ length w
  pub is : label ≡ drop start w
  pub none : (j : ℕ) → from ≤ j → j < start → IsFront strings (drop j w ++ b ∷ []) → ⊥

-- n is the length of the longest string, not the empty one, that the label ends with; 0 if there is
-- none
pub record EndsIn (strings : List Text) (label : Text) (n : ℕ) : Type 0 where
  pub within : n ≤ length label
  pub ends : 0 < n → IsString strings (drop (length label - n) label)
  pub longest : (j : ℕ) → j < length label → IsString strings (drop j label) → length label - j ≤ n

-- the strings, and the label of each node
pub record Labels : Type 0 where
  pub strings : List Text
  pub label : ℕ → Text

-- The children of node n are those from `first n` on and before `first (n + 1)`. All of them come
-- after it.
pub record IsTrie (first bytes : List ℕ) : Type 0 where
  pub rows : length first ≡ length bytes + 1
  pub some : 0 < length bytes
  pub beyond : (n : ℕ) → n < length bytes → n < slice_index first n
  pub ordered : (n : ℕ) → n < length bytes → slice_index first n ≤ slice_index first (n + 1)
  pub within : (n : ℕ) → n < length bytes → slice_index first (n + 1) ≤ length bytes
  pub start : slice_index first 0 ≡ 1
  pub last : slice_index first (length bytes) ≡ length bytes

-- the node is a child of this one
abbrev pub IsChild : List ℕ → ℕ → ℕ → Type 0
IsChild first n m = (slice_index first n ≤ m) × (m < slice_index first (n + 1))

-- each child is its parent's label with one byte more, and there is one for each byte that a string
-- goes on with
pub record IsTrieOf (all : Labels) (first bytes : List ℕ) : Type 0 where
  pub root : all.label 0 ≡ []
  pub child : (n m : ℕ) → n < length bytes → IsChild first n m →
      all.label m ≡ all.label n ++ slice_index bytes m ∷ []
  pub complete : (n b : ℕ) → n < length bytes → IsFront all.strings (all.label n ++ b ∷ []) →
      (m : ℕ) × IsChild first n m × (slice_index bytes m ≡ b)

-- the fallback of each node after the root comes before it
abbrev pub AreFallbacks : List ℕ → Type 0
AreFallbacks fails = (n : ℕ) → 0 < n → n < length fails → slice_index fails n < n

-- its label is the longest end of the node's own label, shorter than that, that some string begins
-- with
abbrev pub AreFallbacksOf : Labels → List ℕ → Type 0
AreFallbacksOf all fails =
    (n : ℕ) → 0 < n → n < length fails →
    StandsFor all.strings (all.label (slice_index fails n)) (all.label n) 1

-- The node is the longest string, not the empty one, that the label ends with. It is the root if there
-- is none.
pub record IsOutput (all : Labels) (label : Text) (m : ℕ) : Type 0 where
  pub ends : EndsIn all.strings label (length (all.label m))
  pub is : all.label m ≡ drop (length label - length (all.label m)) label
  pub some : 0 < m → 0 < length (all.label m)

-- no node's output comes after it
abbrev pub AreOutputs : List ℕ → Type 0
AreOutputs outputs = (n : ℕ) → n < length outputs → slice_index outputs n ≤ n

-- the label ends with a string that has this length, not 0
abbrev pub EndsWith : List Text → Text → ℕ → Type 0
EndsWith strings label n = (0 < n) × (n ≤ length label) × IsString strings (drop (length label - n) label)

-- the node after a step over a byte, where longer ends were tried
abbrev pub StepsOn : Labels → ℕ → ℕ → ℕ → Type 0
StepsOn all n b m =
    (w : Text) (from : ℕ) → MayStandFor all.strings (all.label n) w b from →
    StandsFor all.strings (all.label m) (w ++ b ∷ []) from

-- class 0 is that of bytes that no node has, and each other class is that of one byte
pub record AreClasses (nodes : List ℕ) (steps : StepRows) : Type 0 where
  pub some : 0 < length steps.bytes.items
  pub few : length steps.bytes.items ≤ length steps.classes.items + 1
  pub within : (b : ℕ) → b < length steps.classes.items → slice_index steps.classes.items b < length steps.bytes.items
  pub own : (b : ℕ) → b < length steps.classes.items → 0 < slice_index steps.classes.items b →
      slice_index steps.bytes.items (slice_index steps.classes.items b) ≡ b
  pub others : (b : ℕ) → b < length steps.classes.items → slice_index steps.classes.items b ≡ 0 →
      (m : ℕ) → 0 < m → m < length nodes → ¬ (slice_index nodes m ≡ b)

-- the cell of a node and a byte
abbrev pub cell_of : StepRows → ℕ → ℕ → ℕ
cell_of steps n b = n * length steps.bytes.items + slice_index steps.classes.items b

-- the nodes after each byte at the root and perhaps at the nodes next to it
pub record AreSteps (first : List ℕ) (steps : StepRows) : Type 0 where
  pub all : length steps.classes.items ≡ 256
  pub few : length steps.bytes.items ≤ 257
  pub root : (b : ℕ) → b < 256 → slice_index steps.classes.items b < length steps.cells.items
  pub nodes : (n b : ℕ) → b < 256 → cell_of steps n b < length steps.cells.items →
      slice_index steps.cells.items (cell_of steps n b) < slice_index first (n + 1)

-- each is right for its byte
abbrev pub AreStepsOf : Labels → StepRows → Type 0
AreStepsOf all steps =
    (n b : ℕ) → b < 256 → cell_of steps n b < length steps.cells.items →
    StepsOn all n b (slice_index steps.cells.items (cell_of steps n b))

-- a string, not the empty one, is in the text from place i, `from` or later, to place j
abbrev pub Occurs : List Text → ℕ → Text → ℕ → ℕ → Type 0
Occurs strings from line i j =
    (from ≤ i) × (i < j) × (j ≤ length line) × IsString strings (drop i (take j line))

-- no string ends between two places
abbrev pub NoneBetween : List Text → ℕ → Text → ℕ → ℕ → Type 0
NoneBetween strings from line place next =
    (i k : ℕ) → place < k → k < next → ¬ Occurs strings from line i k

-- No string, not the empty one, begins at a place that is `place` or later, and before `next`. Where
-- a string that begins at `next` or later ends, none of them can go on.
pub record NoneBegins (strings : List Text) (line : Text) (place next : ℕ) : Type 0 where
  pub begins : (i j : ℕ) → i < next → ¬ Occurs strings place line i j
  pub over : (i k j : ℕ) → place ≤ i → i < next → Occurs strings next line k j → ¬ IsFront strings (drop i (take j line))

-- the row of a pair of bytes
abbrev pub pair_row : ℕ → ℕ → ℕ
pair_row b c = b * 128 + c

-- there is a row for each pair of bytes, and no leap is as long as the window
pub record IsLeaps (l : Leaps) : Type 0 where
  pub full : length l.shifts.items ≡ 32896
  pub short : 0 < l.window → (n : ℕ) → n < 32896 → slice_index l.shifts.items n < l.window

-- The window is no longer than any string. If a string has a pair of bytes after j others, a leap
-- from a window that ends with the pair does not pass the string's first byte.
pub record AreLeapsOf (strings : List Text) (l : Leaps) : Type 0 where
  pub long : (s : Text) → IsString strings s → l.window ≤ length s
  pub right : (s : Text) → IsString strings s → (j : ℕ) → j + 2 ≤ l.window →
      slice_index l.shifts.items (pair_row (slice_index s j) (slice_index s (j + 1))) + j + 2 ≤ l.window

-- the tables have a row for each node
pub record IsTable (t : AhoCorasick) : Type 0 where
  pub trie : IsTrie t.trie.first.items t.trie.bytes.items
  pub few : length t.trie.bytes.items < 2 ^ 32
  pub steps : AreSteps t.trie.first.items t.steps
  pub fallbacks : AreFallbacks t.fails.items
  pub fails : length t.fails.items ≡ length t.trie.bytes.items
  pub depths : length t.depths.items ≡ length t.trie.bytes.items
  pub below : AreOutputs t.outputs.items
  pub outputs : length t.outputs.items ≡ length t.trie.bytes.items
  pub leaps : IsLeaps t.leaps
  pub fronts : IsLeaps t.fronts
  pub pairs : 2 ≤ t.leaps.window → t.fronts.window ≡ 2

-- the rows are right for the strings
pub record IsTableOf (all : Labels) (t : AhoCorasick) : Type 0 where
  pub trie : IsTrieOf all t.trie.first.items t.trie.bytes.items
  pub steps : AreStepsOf all t.steps
  pub fails : AreFallbacksOf all t.fails.items
  pub depths : (n : ℕ) → n < length t.trie.bytes.items →
      slice_index t.depths.items n ≡ length (all.label n)
  pub outputs : (n : ℕ) → n < length t.trie.bytes.items →
      IsOutput all (all.label n) (slice_index t.outputs.items n)
  pub leaps : AreLeapsOf all.strings t.leaps
  pub fronts : AreLeapsOf all.strings t.fronts

-- the node is the longest end of the line up to this place that a string begins with
abbrev pub StandsAtNode : Labels → ℕ → Text → ℕ → ℕ → Type 0
StandsAtNode all from line place node =
    StandsFor all.strings (all.label node) (take place line) from

-- The same from a later place on. No string that begins before it ends here or later. Where a string
-- that begins there or later ends, none of them can go on.
pub record StandsSince (all : Labels) (from : ℕ) (line : Text) (place node : ℕ) : Type 0 where
  pub since : ℕ
  pub low : from ≤ since
  pub none : (i j : ℕ) → place ≤ j → i < since → ¬ Occurs all.strings from line i j
  pub over : (i k j : ℕ) → from ≤ i → i < since → Occurs all.strings since line k j → ¬ IsFront all.strings (drop i (take j line))
  pub stands : StandsAtNode all since line place node

-- the best so far, if the longest string that ends at this place has this length; there is none if
-- it is 0
abbrev pub better_ending : Option Span → ℕ → ℕ → Option Span
better_ending best end n =
    if nat_eq n 0 then best else better_span best (record { start = end - n; end = end })

-- of the strings in the line up to a place the span is the one that begins earliest, and then the
-- longest
unfoldable pub IsBestOccurrence : List Text → ℕ → Text → ℕ → Option Span → Type 0
IsBestOccurrence strings from line to best = IsBest (Occurs strings from line) to (places best)

-- each node has its own length if it is a string, else 0
abbrev pub AreOwn : Labels → List ℕ → Type 0
AreOwn all owns =
    (n : ℕ) → n < length owns →
    (0 < slice_index owns n →
    (slice_index owns n ≡ length (all.label n)) × IsString all.strings (all.label n))
    × (IsString all.strings (all.label n) → slice_index owns n ≡ length (all.label n))

-- `count` nodes have their rows
pub record AreLinked (count : ℕ) (fails outputs : List ℕ) : Type 0 where
  pub fallbacks : AreFallbacks fails
  pub below : AreOutputs outputs
  pub all_fails : length fails ≡ count
  pub all_outputs : length outputs ≡ count

-- and these are right
pub record AreLinkedFor (all : Labels) (fails outputs : List ℕ) : Type 0 where
  pub fallbacks : AreFallbacksOf all fails
  pub ended : (n : ℕ) → n < length outputs → IsOutput all (all.label n) (slice_index outputs n)

-- the node itself if it is a string, which has a length, else this output
abbrev pub own_or : ℕ → ℕ → ℕ → ℕ
own_or own node output = if nat_lt 0 own then node else output
