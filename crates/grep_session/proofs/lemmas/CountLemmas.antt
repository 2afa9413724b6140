-- Which kept lines grep selects, and how many, where what is kept of them is right.
use Rattle.{grep_session.proofs.{Prelude.{◌≡◌, ℕ, ◌+◌, ◌<◌, ◌≤◌, Bool, true, false, List, [], ◌∷◌, length, map, take, get_or, All, Some, ◌⊎◌, inl, inr, refl, sym, ap, ◌∙◌, arith, if◌then◌else◌, Decides, Expression, HoldsOfMany, matched_expression, AreMeant, File, Inputs, Inside, IsSession, inputs_of, Options, Selected, file_at, KeptFile, KeptLine, SelectedFrom, line_text, IsKept, IsFileKept, kept_lines, kept_file, is_selected, selected_count, false≢true, length-map, All-tail, All-take, All-get_or}, lemmas.KeptLaws.selected_reported}, std.proofs.lemmas.List.{get_or-map, take-map}, grep_core.proofs.lemmas.LawsHold.means_one}

module _ (es : List Expression) (options : Options) where
  pub many_selected : (lines : List KeptLine) → All (IsKept es options) lines → HoldsOfMany (Selected es options) (map line_text lines) (selected_count options lines)
  many_selected [] kept = refl
  many_selected (line ∷ lines) kept = (
    selected_count options lines,
    many_selected lines (All-tail (IsKept es options) line lines kept),
    by_verdict (is_selected options line) (selected_reported es options line (kept 0 line (omega arith))),
  )
    where
      by_verdict : (b : Bool) → Decides b (Selected es options (line_text line)) →
          (Selected es options (line_text line) × ((if b then 1 else 0) + selected_count options lines ≡ selected_count options lines + 1)) ⊎ ((Selected es options (line_text line) → ⊥) × ((if b then 1 else 0) + selected_count options lines ≡ selected_count options lines))
      by_verdict true d = inl (d.0 refl, omega arith)
      by_verdict false d = inr ((λ s. false≢true (d.1 s)), omega arith)

  -- the number of selected lines before a place
  pub counted_before : (lines : List KeptLine) (place count : ℕ) → All (IsKept es options) lines → count ≡ selected_count options (take place lines) → HoldsOfMany (Selected es options) (take place (map line_text lines)) count
  counted_before lines place count kept is =
      rw is
      (rw (take-map line_text place lines) (many_selected (take place lines) (All-take (IsKept es options) place lines kept)))

  -- the lines before the next selected one are not selected, and it is
  pub none_passed : (lines : List KeptLine) (place next : ℕ) → All (IsKept es options) lines → SelectedFrom options lines place next → (i : ℕ) → place ≤ i → i < next → Selected es options (get_or (map line_text lines) i []) → ⊥
  none_passed [] place next kept s i low high selected = absurd (omega arith)
  none_passed (d ∷ more) place next kept s i low high selected =
      let inside : i < length (d ∷ more) = omega arith in
      let line = get_or (d ∷ more) i d in
      let there = rw (get_or-map line_text (d ∷ more) i d [] inside) at selected in
      false≢true (sym (s.passed i d low high) ∙ (selected_reported es options line (kept i d inside)).1 there)

  pub one_found : (lines : List KeptLine) (place next : ℕ) → All (IsKept es options) lines → SelectedFrom options lines place next → next < length lines → Selected es options (get_or (map line_text lines) next [])
  one_found [] place next kept s h = absurd (omega arith)
  one_found (d ∷ more) place next kept s h =
      let line = get_or (d ∷ more) next d in
      rw (get_or-map line_text (d ∷ more) next d [] h) ((selected_reported es options line (kept next d h)).0 (s.hit d h))

  -- the same of a file
  module _ (file : KeptFile) (lines : List KeptLine) (is : kept_lines file ≡ Some lines) (kept : IsFileKept es options file) where
    lines_kept : All (IsKept es options) lines
    lines_kept = rw is at kept

    lines_are : map line_text lines ≡ (kept_file file).lines
    lines_are = rw is

    pub file_counted : (place count : ℕ) → count ≡ selected_count options (take place lines) → HoldsOfMany (Selected es options) (take place (kept_file file).lines) count
    file_counted place count e = rw lines_are at (counted_before _ _ _ lines_kept e)

    pub file_passed : (place next : ℕ) → SelectedFrom options lines place next → (i : ℕ) → place ≤ i → i < next → Selected es options (get_or (kept_file file).lines i []) → ⊥
    file_passed place next s = rw lines_are at (none_passed lines place next lines_kept s)

    pub file_found : (place next : ℕ) → SelectedFrom options lines place next → next < length (kept_file file).lines → Selected es options (get_or (kept_file file).lines next [])
    file_found place next s = rw (← lines_are) (λ h. one_found lines place next lines_kept s (omega (arith, length-map lines line_text)))

-- what holds of a file, by what is kept of it, holds of file k of the inputs of the session
pub of_file : (P : List Expression → Options → File → Type 0) {s : Inside} {shown : Inputs} (k : ℕ) {files : List KeptFile} {file : KeptFile} → IsSession s → inputs_of s ≡ shown → files ≡ s.files.items → k < length files → file ≡ get_or files k file
    → ((es : List Expression) → IsFileKept es s.options file → P es s.options (kept_file file)) → (es : List Expression) → AreMeant shown.syntax shown.options shown.patterns es → P es shown.options (file_at shown.files k)
of_file P {s} k {files} {file} right same are inside at holds =
    rw (← same)
    (λ es meant.
    let found = map matched_expression s.matchers.items in
    let one = means_one s.syntax s.options (inputs_of s).patterns found es right.matchers.meant meant in
    let kept = rw (sym at) at (All-get_or (IsFileKept es s.options) files k file inside (rw are (rw one at right.kept))) in
    let here = ap kept_file at ∙ sym (get_or-map kept_file files k file (file_at [] k) inside) ∙ ap (λ fs. file_at (map kept_file fs) k) are in
    rw here at (holds es kept))
