-- Rows of a reply, none of which passes a test.
use Rattle.grep_cmd.proofs.Prelude.{◌≡◌, ℕ, ◌+◌, true, false, Bool, List, [], ◌∷◌, ◌++◌, map, refl, if◌then◌else◌, flat_map, list_any, Text, Hit, Change, is_idle, hit_row, change_row, change_rows, changes_rows, list_any-append}

module _ (test : Text → Bool) where
  -- no row that is made of a value
  pub none_mapped : {A : Type 0} (row : A → Text) (values : List A) → ((value : A) → test (row value) ≡ false) → list_any test (map row values) ≡ false
  none_mapped row [] fails = refl
  none_mapped row (value ∷ values) fails = cc (fails value, none_mapped row values fails)

  -- two lists without such a row
  pub none_joined : (xs ys : List Text) → list_any test xs ≡ false → list_any test ys ≡ false → list_any test (xs ++ ys) ≡ false
  none_joined xs ys p q = cc (list_any-append test xs ys)

  module _ (texts : Bool) (of_hits : (hit : Hit) → test (hit_row texts hit) ≡ false) (of_changes : (k : ℕ) (change : Change) → test (change_row k change) ≡ false) where
    none_change : (k : ℕ) (change : Change) → list_any test (change_rows texts k change) ≡ false
    none_change k change = by_idle (is_idle change)
      where
        by_idle : (idle : Bool) → list_any test (if idle then [] else change_row k change ∷ map (hit_row texts) change.come) ≡ false
        by_idle true = refl
        by_idle false = cc (of_changes k change, none_mapped (hit_row texts) _ of_hits)

    none_file : (k : ℕ) (changes : List Change) → list_any test (flat_map (change_rows texts k) changes) ≡ false
    none_file k [] = refl
    none_file k (change ∷ changes) = none_joined _ _ (none_change k change) (none_file k changes)

    -- the rows of what changed
    pub none_changes : (k : ℕ) (changes : List (List Change)) → list_any test (changes_rows texts k changes) ≡ false
    none_changes k [] = refl
    none_changes k (own ∷ changes) = none_joined _ _ (none_file k own) (none_changes (k + 1) changes)
