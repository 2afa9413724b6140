-- Whether a line of some file is selected, by the first hit of each file.
use Rattle.{grep_live.proofs.Prelude.{◌≡◌, ℕ, ◌+◌, ◌<◌, ◌≤◌, true, false, List, [], length, get_or, ◌∙◌, ◌⊎◌, inl, inr, arith, cases_lt, Decides, Expression, Inputs, Selected, HasSelected, AnySelected, file_at, Mean, get_or_default}, grep_core.proofs.lemmas.Verdicts.{decided_yes, decided_no}}

-- none of the first files has a hit
abbrev pub FirstBare : Inputs → ℕ → Type 0
FirstBare inputs k = (es : List Expression) → Mean inputs es → (j : ℕ) → j < k → HasSelected es inputs.options (file_at inputs.files j) → ⊥

module _ (inputs : Inputs) (k next : ℕ) where
  -- none of the lines before one is a hit
  abbrev pub Passed : Type 0
  Passed = (es : List Expression) → Mean inputs es → (i : ℕ) → 0 ≤ i → i < next → Selected es inputs.options (get_or (file_at inputs.files k).lines i []) → ⊥

  pub bare_more : FirstBare inputs k → Passed → length (file_at inputs.files k).lines ≤ next → FirstBare inputs (k + 1)
  bare_more first passed past = λ es meant j l has. by_place es meant j (cases_lt j k) l has
    where
      here : (es : List Expression) → Mean inputs es → HasSelected es inputs.options (file_at inputs.files k) → ⊥
      here es meant (i, line, inside, is, s) =
          let lines = (file_at inputs.files k).lines in
          let there = get_or_default lines i [] line inside ∙ is in
          passed es meant i (omega arith) (omega arith) (rw there s)

      by_place : (es : List Expression) → Mean inputs es → (j : ℕ) → (j < k) ⊎ (k ≤ j) → j < k + 1 → HasSelected es inputs.options (file_at inputs.files j) → ⊥
      by_place es meant j (inl h) l has = first es meant j h has
      by_place es meant j (inr h) l has =
          let is_k : j ≡ k = omega arith in
          here es meant (rw is_k at has)

  pub some_hit : k < length inputs.files → next < length (file_at inputs.files k).lines → (es : List Expression) → Mean inputs es → Selected es inputs.options (get_or (file_at inputs.files k).lines next []) → Decides true (AnySelected es inputs.options inputs.files)
  some_hit inside within es meant s =
      let file = file_at inputs.files k in
      let line = get_or file.lines next [] in
      let there = get_or_default inputs.files k file (file_at [] k) inside in
      decided_yes (k, file, inside, there, (next, line, within, get_or_default file.lines next line [] within, s))

pub no_hit : (inputs : Inputs) (k : ℕ) → length inputs.files ≤ k → FirstBare inputs k → (es : List Expression) → Mean inputs es → Decides false (AnySelected es inputs.options inputs.files)
no_hit inputs k past first es meant = decided_no none
  where
    none : AnySelected es inputs.options inputs.files → ⊥
    none (j, file, inside, is, has) =
        let there = get_or_default inputs.files j (file_at [] j) file inside ∙ is in
        first es meant j (omega arith) (rw there has)
