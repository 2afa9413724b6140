-- The words of the machine and of separation logic that proofs by hand use, passed on from one place. Declares nothing.
pub use Rattle.{
  core.proofs.alloc.Calls.{Al, Goes-blank, handle_tells},
  core.proofs.atomic.Steps.{fm},
  core.proofs.cell.Inside.{Good},
  core.specs.declared.alloc.Allocator.{Ghosts},
  gaxtrel.specs.Working.Owned.{held_owns},
  gaxtrel.specs.declared.held.Held.{Held},
  std.proofs.Common.{List, [], ap, refl, subst, sym, ℕ, ◌++◌, ◌∙◌, ◌∷◌, ◌≡◌},
  std.proofs.raw_atomic.Walks.{leaves, proved_at},
  std.specs.Prelude.{None, Option, Some},
  std_alloc.proofs.BoxSteps.Steps.{box_in, box_out},
  std_alloc.proofs.ResultValues.{and_tt},
  std_alloc.specs.Box.Ownership.{box_owns},
}
pub use base.Fml.{flft, fsep, ftrue}
pub use base.Logic.{SProp, emp, ent, fst∗, id⊢, never}
pub use contract.Monad.{fact, fact_i}
pub use contract.Running.{tables}
pub use denote.Builtin.{RawPtr}
pub use denote.Exit.{no, yes}
pub use denote.Memory.{lone}
pub use denote.Param.{bounded, layout, param}
pub use denote.Param.Laws.{Laws, param_laws}
pub use denote.RattleType.{RattleType, Valss, owns}
pub use denote.RawPtr.{Ptr, block_ptr, in_a_block, null_ptr, ptr_val}
pub use denote.Signature.{plain, types_at}
pub use denote.Steps.{heard, nothing, only}
pub use denote.Struct.Owning.{fields, shape, to}
pub use denote.Struct.Struct.{exits_of, within}
pub use denote.Triple.Spec.{triple_of}
pub use denote.Triple.Walked.{Goes-dropped, Stays, stay_dropped, walk_of}
pub use mir.MapTy.{inst_fn}
pub use mir.Raw.{raw as bare}
pub use mir.Syntax.{a_type, dcons, dnil, impl, tnil}
pub use mir.Val.{Val, WT, has_ty, of_list, vcons, vnil, vnull, vptr, vstruct}
pub use prog.Wp.{WpFn}
pub use seplogic.Ra.Ura.{Ura}
pub use types.Logic.{Logic, sem}
pub use types.Part.{agg, sub, whole}
