-- Of files whose changes were all reported no row is written.
use Rattle.grep_live.proofs.Prelude.{Bool, ◌≡◌, ℕ, ◌+◌, List, [], ◌∷◌, ◌++◌, length, map, refl, flat_map, Expression, Options, File, AllThree, whole_mark, Change, ChangesFile, change_rows, changes_rows, NothingTwice}

module _ (texts : Bool) (es : List Expression) (options : Options) where
  pub one_silent : (k : ℕ) (file : File) (changes : List Change) → ChangesFile es options file (whole_mark (length file.lines)) changes → flat_map (change_rows texts k) changes ≡ []
  one_silent k file changes c = rw c

  pub all_silent : (k : ℕ) (files : List File) (changes : List (List Change)) → AllThree (ChangesFile es options) files (map (λ file. whole_mark (length file.lines)) files) changes → changes_rows texts k changes ≡ []
  all_silent k [] [] c = refl
  all_silent k [] (change ∷ changes) c = absurd c
  all_silent k (file ∷ files) [] c = absurd c
  all_silent k (file ∷ files) (change ∷ changes) c =
      let first = one_silent k file change c.0 in
      let rest = all_silent (k + 1) files changes c.1 in
      λ i. first i ++ rest i

pub nothing_twice : NothingTwice
nothing_twice old es changes c texts = all_silent texts es old.inputs.options 0 old.inputs.files changes c
