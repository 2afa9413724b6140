-- The status, by whether a line was selected and whether a fault was met.
use Rattle.{grep_core.proofs.Prelude.{IsTrue, List, ◌∷◌, ◌++◌, inl, inr, refl, Any, Expression, Options, NoneSelected, Error, File, HasSelected, FaultMet, AnySelected, StatusOf}, re_syntax.proofs.lemmas.{Decisions.{dec_IsTrue, Any-first}, SomeOfJoined.Any-right}}
use Rattle.grep_core.specs.declared.status.Status.TheVariants.{Selected as selected}

module _ (es : List Expression) (options : Options) where
  -- under `-q` a selected line decides
  pub StatusOf-quiet : (files : List File) → IsTrue options.quiet → AnySelected es options files → StatusOf es options files selected
  StatusOf-quiet _ quiet any = inl ((quiet, any), refl)

  -- under `-q` a file with a selected line decides, with any files after it
  pub StatusOf-stopped : (front rest : List File) (file : File) → IsTrue options.quiet → HasSelected es options file → StatusOf es options (front ++ file ∷ rest) selected
  StatusOf-stopped front rest file quiet has = StatusOf-quiet (front ++ file ∷ rest) quiet (Any-right (HasSelected es options) front (file ∷ rest) (Any-first (HasSelected es options) file rest has))

  -- otherwise a fault that was met decides
  pub StatusOf-error : (files : List File) → (IsTrue options.quiet → AnySelected es options files → ⊥) → Any (FaultMet es options) files → StatusOf es options files Error
  StatusOf-error _ not_quiet fault = inr ((λ h. not_quiet h.0 h.1), inl (fault, refl))

  -- without a fault a selected line decides
  pub StatusOf-selected : (files : List File) → (Any (FaultMet es options) files → ⊥) → AnySelected es options files → StatusOf es options files selected
  StatusOf-selected _ no_fault any =
      elim (dec_IsTrue options.quiet) [ yes quiet ↦ inl ((quiet, any), refl) | no loud ↦ inr ((λ h. loud h.0), inr (no_fault, inl (any, refl))) ]

  -- without either no line was selected
  pub StatusOf-none : (files : List File) → (Any (FaultMet es options) files → ⊥) → (AnySelected es options files → ⊥) → StatusOf es options files NoneSelected
  StatusOf-none _ no_fault none = inr ((λ h. none h.1), inr (no_fault, inr (none, refl)))
