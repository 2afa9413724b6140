-- Which lists of an editor are still right, and what an edit makes of them.
use Rattle.std.specs.Prelude.{get_or, nat_eq, [], ◌<◌, ◌++◌, length, ◌∷◌, List, map, ℕ}
use Rattle.std.specs.List.{filter, remove}
use Rattle.{re_syntax.specs.Expression.Expression, grep_core.specs.Files.{File, Mean, Inputs}}
use Rattle.grep_session.specs.{Marks.Watched, Edits.{DropFile, AddMissing, AddFile, Edit}}
use Rattle.{line_marks.specs.Stretches.{Marked, Keeps}, grep_live.specs.Changes.{AreWithin, moved}}
use Rattle.grep_live.specs.Hits.{AllThree, Hit, View, HitOf}

abbrev pub hits_at : ℕ → List Hit → List Hit
hits_at place hits = filter (λ hit. nat_eq hit.place place) hits

-- the list of a file is in order, and of the lines that were known; at each of these that is
-- untouched it has the present hits, moved to where the line is now
pub record FollowsFile (inputs : Inputs) (file : File) (mark : Marked)
    (hits : List Hit) : Type 0 where
  pub in_order : AreWithin 0 mark.known hits
  pub untouched : (es : List Expression) → Mean inputs es → (old new : ℕ) →
      Keeps mark.stretches old new → new < length file.lines →
      HitOf es inputs.options (new, get_or file.lines new [])
      (map (moved old new) (hits_at old hits))

-- the list of each file follows
abbrev pub Follows : Watched → View → Type 0
Follows state view = AllThree (FollowsFile state.inputs) state.inputs.files state.marks view

-- the lists of an editor after an accepted edit: the list of a removed file is dropped, and that of
-- an added file is empty
abbrev pub view_after : Edit → View → View
view_after (AddFile name lines) view = view ++ [] ∷ []
view_after (AddMissing name) view = view ++ [] ∷ []
view_after (DropFile k) view = remove view k
view_after _ view = view
