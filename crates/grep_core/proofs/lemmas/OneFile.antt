-- A run over one source, by its lines: its output, messages, status and failures.
use Rattle.{grep_core.proofs.Prelude.{◌≡◌, false, ◌⊎◌, ◌||◌, IsTrue, List, [], refl, ap, ◌∙◌, arith, inl, inr, Text, ended_lines_of, Expression, Options, File, Ending, whole, broken, HasSelected, FaultMet, Reading, not_opened, fails_after, ends_after, up_to_limit, file_of, failures_of}, grep_io.proofs.lemmas.FileLaws.up_to_limit-beyond}

-- ---- readings

not_whole : (name : Text) (ls : List Text) → (up_to_limit name ls broken).ending ≡ broken
not_whole name ls =
    let file = up_to_limit-beyond name [] ls broken (omega arith) in
    ap (λ (f : File). f.ending) file.2 ∙ elim file.3 [ inl e ↦ e | inr e ↦ e ]

-- a source that stands for a whole file did not fail
pub whole-failures : (name : Text) (r : Reading) → (file_of name r).ending ≡ whole → failures_of r ≡ 0
whole-failures name not_opened e = absurd (cc)
whole-failures name (fails_after bytes) e = let is = not_whole name (ended_lines_of bytes) in absurd (cc)
whole-failures _ (ends_after bytes) e = refl

-- ---- a file that was left

module _ (es : List Expression) (options : Options) where
  -- under `-q` and `-l` no fault is met after a selected line
  pub FaultMet-left : (file : File) → (file.ending ≡ whole) ⊎ (file.ending ≡ broken) → IsTrue (options.quiet || options.files_with_matches) → HasSelected es options file → FaultMet es options file → ⊥
  FaultMet-left file (inl e) early has met = rw e at met
  FaultMet-left file (inr e) early has met = rw e at met early has

-- ---- one file, without `-q`

module _ (es : List Expression) (options : Options) (loud : options.quiet ≡ false) where
  module _ (name : Text) (ls : List Text) where
    abbrev ends : Ending → File
    ends ending = record { name = name; lines = ls; ending = ending }
