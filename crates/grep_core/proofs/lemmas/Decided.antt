-- Whether a line is selected, and whether a file's fault is met, is decided.
use Rattle.{grep_core.proofs.Prelude.{Bool, true, false, ◌||◌, IsTrue, List, refl, Text, Expression, Options, File, Ending, whole, missing, broken, Matched, Selected, HasSelected, FaultMet, FaultMetBy, AnySelected, false≢true}, re_syntax.proofs.lemmas.{Decisions.{dec_not, dec_both, dec_any, dec_IsTrue, dec_MatchBool}, HoldsDecided.dec_matches}}

module _ (es : List Expression) (options : Options) where
  -- whether some expression matches a line is decided
  pub dec_matched : (line : Text) → Dec (Matched es options line)
  dec_matched line = dec_any _ (λ e. dec_matches e line options.line_regexp) es

  -- whether a line is selected is decided
  pub dec_selected : (line : Text) → Dec (Selected es options line)
  dec_selected line = dec_MatchBool options.invert_match (dec_not (dec_matched line)) (dec_matched line)

  -- whether a file has a selected line is decided
  pub dec_has_selected : (file : File) → Dec (HasSelected es options file)
  dec_has_selected file = dec_any _ dec_selected file.lines

  -- whether some file has a selected line is decided
  pub dec_any_selected : (files : List File) → Dec (AnySelected es options files)
  dec_any_selected files = dec_any _ dec_has_selected files

  -- whether a run stops at a file is decided
  pub dec_stops : (file : File) → Dec (IsTrue options.quiet × HasSelected es options file)
  dec_stops file = dec_both (dec_IsTrue options.quiet) (dec_has_selected file)

  -- whether a fault is met is decided, by how the file ended
  dec_fault_met_by : (ending : Ending) (file : File) → Dec (FaultMetBy es options ending file)
  dec_fault_met_by whole _ = no (λ h. h)
  dec_fault_met_by missing _ = yes tt
  dec_fault_met_by broken file = by_flag (options.quiet || options.files_with_matches) (dec_has_selected file)
    where
      by_flag : (early : Bool) → Dec (HasSelected es options file) → Dec (IsTrue early → HasSelected es options file → ⊥)
      by_flag true (yes h) = no (λ f. f refl h)
      by_flag true (no h) = yes (λ _. h)
      by_flag false d = yes (λ e. absurd (false≢true e))

  -- whether a fault is met is decided
  pub dec_fault_met : (file : File) → Dec (FaultMet es options file)
  dec_fault_met _ = dec_fault_met_by _ _
