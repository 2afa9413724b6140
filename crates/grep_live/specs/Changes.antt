-- Changes: what is reported of a file, and the list that an editor makes of it.
use Rattle.std.specs.{Prelude.{◌≡◌, ◌+◌, ◌<◌, nat_lt, ℕ, ◌&&◌, nat_eq, nat_le, ◌≤◌}, List.filter}
use Rattle.std.specs.Prelude.{List, ◌-◌, if◌then◌else◌, [], drop, ◌++◌, ◌∷◌, slice_range, Bool, map}
use Rattle.re_syntax.specs.{Bytes.Text, Expression.Expression}
use Rattle.grep_core.specs.{declared.options.Options.Options, Files.File}
use Rattle.line_marks.specs.{Stretches.Marked, declared.stretch.Stretch.Stretch}
use Rattle.grep_live.specs.Hits.{HitsFrom, View, Hit}

abbrev pub hits_before : ℕ → List Hit → List Hit
hits_before place hits = filter (λ hit. nat_lt hit.place place) hits

-- a hit, where the line at `from` moves to `to`
abbrev pub moved : ℕ → ℕ → Hit → Hit
moved from to hit = record hit { place = to + (hit.place - from) }

-- the hits from place `from` on, where the line there moves to `to`
abbrev pub hits_from : ℕ → ℕ → List Hit → List Hit
hits_from from to hits = map (moved from to) (filter (λ hit. nat_le from hit.place) hits)

-- the hits after `removed` lines from `front` on were replaced by `added` lines with these hits
abbrev pub spliced_hits : ℕ → ℕ → ℕ → List Hit → List Hit → List Hit
spliced_hits front removed added come old =
    hits_before front old ++ (come ++ hits_from (front + removed) (front + added) old)

-- from line `front` on `removed` lines were replaced by `added` lines, and these are their hits
pub record Change : Type 0 where
  pub front : ℕ
  pub removed : ℕ
  pub added : ℕ
  pub come : List Hit

-- nothing was removed and nothing added, so nothing is reported
abbrev pub is_idle : Change → Bool
is_idle change = nat_eq change.removed 0 && nat_eq change.added 0

-- the list of a file after a change
abbrev pub after : Change → List Hit → List Hit
after change hits =
    if is_idle change then hits
    else spliced_hits change.front change.removed change.added change.come hits

-- the list of a file after its changes, one after the other
abbrev pub after_each : List Change → List Hit → List Hit
after_each [] hits = hits
after_each (change ∷ more) hits = after_each more (after change hits)

-- the lists of all files, each after its changes
abbrev pub all_after : List (List Change) → View → View
all_after [] view = []
all_after (changes ∷ more) [] = []
all_after (changes ∷ more) (hits ∷ view) = after_each changes hits ∷ all_after more view

module _ (es : List Expression) (options : Options) where
  -- the changes of a file by its stretches: each was replaced by the lines that stand there now. The
  -- lines are those after the stretch before, and `first` is the place of the first of them
  abbrev pub AreChanges : ℕ → List Text → List Stretch → List Change → Type 0
  AreChanges first lines [] changes = changes ≡ []
  AreChanges first lines (stretch ∷ more) [] = ⊥
  AreChanges first lines (stretch ∷ more) (change ∷ changes) =
      let front = first + stretch.kept in
      let past = stretch.kept + stretch.added in
      (change.front ≡ front) × (change.removed ≡ stretch.removed) ×
      (change.added ≡ stretch.added) ×
      HitsFrom es options front (slice_range lines stretch.kept past) change.come ×
      AreChanges (first + past) (drop past lines) more changes

  abbrev pub ChangesFile : File → Marked → List Change → Type 0
  ChangesFile file mark changes = AreChanges 0 file.lines mark.stretches changes

-- hits in the order of their places, from place `first` on and before place `past`
abbrev pub AreWithin : ℕ → ℕ → List Hit → Type 0
AreWithin first past [] = Unit {0}
AreWithin first past (hit ∷ more) =
    (first ≤ hit.place) × (hit.place < past) × AreWithin (hit.place + 1) past more
