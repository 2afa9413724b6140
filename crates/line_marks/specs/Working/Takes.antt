-- What a stretch takes in place of others.
use Rattle.std.specs.Prelude.{ℕ, ◌+◌, ◌≤◌, List, ◌∷◌, length, drop}
use Rattle.line_marks.specs.declared.{stretch.Stretch.Stretch, touched.Touched.Touched}
use Rattle.line_marks.specs.Working.{Covers.Covers, Places.{HasLead, led}}

-- one stretch takes the place of the first ones, and some of the lines after them: with it the
-- lines from line `start` up to line `end` are lost, and it has those up to line `reach`
pub record Takes (start end reach : ℕ) (old : List Stretch) (all : Touched) : Type 0 where
  pub within : all.many ≤ length old
  pub lead : HasLead all.lead (drop all.many old)
  pub few_lead : all.lead ≤ all.one.kept + all.one.added
  pub begins : all.one.kept ≤ start
  pub reaches : reach ≤ all.one.kept + all.one.added
  pub covers : Covers start end old (all.one ∷ led all.lead (drop all.many old))
