-- How changes and pages are written (occur(1), REPLIES).
use Rattle.std.specs.Prelude.{ℕ, ◌+◌, ◌-◌, ◌^◌, min, List, [], ◌∷◌, ◌++◌, map, length, take, drop}
use Rattle.std.specs.{Prelude.{Bool, if◌then◌else◌, codes}, List.flat_map, Fmt.decimal}
use Rattle.{re_syntax.specs.Bytes.Text, grep_live.specs.{Changes.{is_idle, Change}, Hits.View}}
use Rattle.grep_live.specs.Hits.{Hit}

-- numbers, each after a space
abbrev pub spaced : List ℕ → Text
spaced numbers = flat_map (λ number. codes " " ++ decimal number) numbers

-- a part: where it starts and ends
abbrev pub part_text : ℕ × ℕ → Text
part_text part = decimal part.0 ++ (codes "-" ++ decimal part.1)

-- the parts after the first, each after a comma
abbrev pub more_parts : List (ℕ × ℕ) → Text
more_parts parts = flat_map (λ part. codes "," ++ part_text part) parts

-- the listed parts of a line, or a hyphen where there are none
abbrev pub parts_text : List (ℕ × ℕ) → Text
parts_text [] = codes "-"
parts_text (part ∷ parts) = part_text part ++ more_parts parts

-- h K FRONT REMOVED ADDED COUNT
abbrev pub change_row : ℕ → Change → Text
change_row k change =
    codes "h"
    ++ spaced (k ∷ change.front ∷ change.removed ∷ change.added ∷ length change.come ∷ [])

-- the hits of files in order, each with the number of its file; the first file has number `k`
abbrev pub all_hits : ℕ → View → List (ℕ × Hit)
all_hits k [] = []
all_hits k (hits ∷ view) = map (λ hit. (k, hit)) hits ++ all_hits (k + 1) view

-- hits TOTAL
abbrev pub total_row : ℕ → Text
total_row total = codes "hits" ++ spaced (total ∷ [])

-- `texts` says whether the rows of hits have their text
module _ (texts : Bool) where
  -- the end of a row: a space and the line, or nothing
  abbrev pub line_text : Text → Text
  line_text line = if texts then codes " " ++ line else []

  -- a word, numbers, the parts of a line and the line
  abbrev pub hit_text : Text → List ℕ → List (ℕ × ℕ) → Text → Text
  hit_text word numbers parts line =
      word ++ (spaced numbers ++ (codes " " ++ (parts_text parts ++ line_text line)))

  -- r PLACE PARTS TEXT
  abbrev pub hit_row : Hit → Text
  hit_row hit = hit_text (codes "r") (hit.place ∷ []) hit.parts hit.text

  -- the rows of a change of file k: none, or the change and each hit among the added lines
  abbrev pub change_rows : ℕ → Change → List Text
  change_rows k change =
      if is_idle change then [] else change_row k change ∷ map hit_row change.come

  -- the rows of files, the first of which has number `k`
  abbrev pub changes_rows : ℕ → List (List Change) → List Text
  changes_rows k [] = []
  changes_rows k (changes ∷ more) = flat_map (change_rows k) changes ++ changes_rows (k + 1) more

  -- p K PLACE PARTS TEXT
  abbrev pub page_row : ℕ × Hit → Text
  page_row (k, hit) = hit_text (codes "p") (k ∷ hit.place ∷ []) hit.parts hit.text

  -- of all hits, numbered from 0, at most `count` from number `first` on
  abbrev pub page_rows : ℕ → ℕ → List (ℕ × Hit) → List Text
  page_rows first count all = map page_row (take count (drop first all))

  -- the number of all hits, or the greatest u64, and those of the page
  abbrev pub page_lines : ℕ → ℕ → View → List Text
  page_lines first count view =
      total_row (min (length (all_hits 0 view)) (2 ^ 64 - 1)) ∷
      page_rows first count (all_hits 0 view)
