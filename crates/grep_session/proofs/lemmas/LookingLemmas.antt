-- The hit of a line, where what is kept of it is right.
use Rattle.{grep_session.proofs.{Prelude.{◌≡◌, ℕ, ◌<◌, Bool, true, false, List, [], length, map, get_or, None, Some, MatchBool, ◌≤◌, ◌⊎◌, inl, inr, refl, sym, ap, ◌∙◌, arith, if◌then◌else◌, Text, Expression, AreParts, Span, Options, Selected, file_at, KeptLine, line_text, no_line, KeptFile, ListedParts, span_places, kept_lines, kept_file, file_with, IsKept, IsFileKept, listed_spans, is_selected, false≢true, cases_lt, get_or_past, length-map, All-get_or}, lemmas.KeptLaws.selected_reported}, std.{specs.Prelude.⊤, proofs.lemmas.List.get_or-map}}

module _ (es : List Expression) (options : Options) where
  -- the listed parts are those of the line
  parts_listed : (line : KeptLine) → IsKept es options line → ListedParts es options (line_text line) (map span_places (listed_spans options line))
  parts_listed line k = by_flag options.only_matching k.parts
    where
      by_flag : (asked : Bool) → MatchBool asked (AreParts es (line_text line) options.line_regexp (map span_places line.found.spans)) ⊤ →
          MatchBool asked (AreParts es (line_text line) options.line_regexp (map span_places (if asked then line.found.spans else []))) (map span_places (if asked then line.found.spans else []) ≡ [])
      by_flag true h = h
      by_flag false h = refl

  -- the hit of a line
  pub line_listed : (line : KeptLine) → IsKept es options line → is_selected options line ≡ true → {there text : Text} {spans : List Span} → there ≡ line_text line → text ≡ line_text line → spans ≡ listed_spans options line
      → Selected es options there × (text ≡ there) × ListedParts es options there (map span_places spans)
  line_listed line k found is same listed = (
    rw is ((selected_reported es options line k).0 found),
    same ∙ sym is,
    rw is (rw listed (parts_listed line k)),
  )

  -- a line that is not selected has none
  pub line_unlisted : (line : KeptLine) → IsKept es options line → is_selected options line ≡ false → {there : Text} → there ≡ line_text line → Selected es options there → ⊥
  line_unlisted line k none is selected = false≢true (sym none ∙ (selected_reported es options line k).1 (rw is at selected))

-- ---- the lines of a file

module _ (file : KeptFile) (place : ℕ) (here : place < length (kept_file file).lines) where
  -- a file without lines has no line
  pub has_no_line : kept_lines file ≡ None → ⊥
  has_no_line is = let bad = rw is at here in omega arith

  -- a line of it is among those that are kept
  pub line_there : (lines : List KeptLine) → kept_lines file ≡ Some lines → (place < length lines) × (get_or (kept_file file).lines place [] ≡ line_text (get_or lines place no_line))
  line_there lines is =
      let inside : place < length lines = omega (arith, rw is at here, length-map lines line_text) in
      (inside, ap (λ kept. get_or (file_with file.name.items kept).lines place []) is ∙ get_or-map line_text lines place no_line [] inside)

  pub line_kept : (es : List Expression) (options : Options) (lines : List KeptLine) → kept_lines file ≡ Some lines → IsFileKept es options file → IsKept es options (get_or lines place no_line)
  line_kept es options lines is kept = All-get_or (IsKept es options) lines place no_line (line_there _ is).0 (rw is at kept)

-- a file that has a line is there
pub there : (files : List KeptFile) (k place : ℕ) → place < length (file_at (map kept_file files) k).lines → k < length files
there files k place h = by_place (cases_lt k (length files))
  where
    by_place : (k < length files) ⊎ (length files ≤ k) → k < length files
    by_place (inl inside) = inside
    by_place (inr past) =
        let none = get_or_past (map kept_file files) k (file_at [] k) (omega (arith, length-map files kept_file)) in
        let bad = rw none at h in
        absurd (omega arith)

-- file k of the inputs is that of the kept file
pub file_is : (files : List KeptFile) (k place : ℕ) (file : KeptFile) → place < length (file_at (map kept_file files) k).lines → file ≡ get_or files k file → file_at (map kept_file files) k ≡ kept_file file
file_is files k place file h at = get_or-map kept_file files k file (file_at [] k) (there files k place h) ∙ ap kept_file (sym at)
