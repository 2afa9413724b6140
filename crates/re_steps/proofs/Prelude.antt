-- The words of specs and of std that proofs of this crate use, passed on from one place. Declares nothing.
pub use Rattle.lru.specs.LruCache.{IsValid, LruCache, displaced, put_entries}
pub use Rattle.{
  re_auto.specs.Working.Positions.{PartHolds, is_end, part_of},
  re_auto.specs.Working.StateSets.{IsMadeFor, IsNowhere, IsSame, TakenAlike},
}
unfoldable pub use Rattle.re_auto.specs.Working.StateSets.{IsAccepting, IsNextSet, StandsAt}
pub use Rattle.{
  re_auto.specs.Working.Tables.{CanBegin},
  re_auto.specs.contracts.mode.Mode.{the_type},
  re_auto.specs.contracts.step.state_set.StateSetPartialEq.TheImpl.{eq-value},
  re_auto.specs.declared.mode.Mode.{Mode},
  re_auto.specs.declared.mode.Mode.TheVariants.{Search, Whole},
  re_auto.specs.declared.step.state_set.StateSet.{StateSet},
  re_meter.specs.Meters.{AddsJust, AddsUpTo, Steps, many_built, many_reused},
  re_runs.specs.Working.Blocks.{IsBlock, PassesUnmatched},
  re_steps.specs.Working.Pairs.{IsKeptOrLost, Mirrors, shown, unknown},
  re_steps.specs.Working.Rows.{AreExtended, AreSound, ComesTo, HasFirstRows, IsCellOf, IsMarkOf, IsRightFor, IsRow, IsRowOf, Lands, LandsAlone, Lasts, Rows, SaysNext, cache_of, cell_at, expression_in, limit, row_under, walked},
  re_steps.specs.Working.Simulations.{AreSetsFor, EndsAt},
}
unfoldable pub use Rattle.re_steps.specs.Working.Simulations.{NoneEndsBefore}
pub use Rattle.re_steps.specs.Working.Stages.{AreAlike, Cache, Finishes, GoesOver, HoldsNoOther, IsHeld, IsPlain, IsReadied, Searches, Stage, mode_for}
unfoldable pub use Rattle.re_steps.specs.Working.Stages.{Goes}
pub use Rattle.{
  re_steps.specs.Working.Walks.{Arrives, GoesOverLines, HasLanded, IsAt, IsAtOf, LeadsOn},
  re_steps.specs.declared.table.Acceptance.{Acceptance},
  re_steps.specs.declared.table.LineSearch.{LineSearch},
  re_steps.specs.declared.table.StepTable.{StepTable},
  re_steps.specs.declared.walk.Lines.{Lines},
  re_steps.specs.declared.walk.Spot.{Spot},
  re_steps.specs.declared.walk.Went.{Went},
  re_trees.specs.Bytes.{Text},
  re_trees.specs.Expression.{Expression},
  re_trees.specs.Holds.{Holds, Matches},
  re_trees.specs.Lines.{HasNoNewline, newline},
  re_trees.specs.Working.Trees.{expression_of},
  std.proofs.Common.{Bool, IfNone, IfSome, IsSome, IsTrue, List, None, Option, Some, [], add-one, ap, arith, cond, eq-eqb, false, get_or, get_or-set_other, get_or-set_same, if◌then◌else◌, inl, inr, length, length-append, length-set, lt-ltb, ltb-true, nat_eq, nat_lt, ne_eqb, position, refl, replicate, set, slice_get, slice_index, slice_range, subst, suc, sym, take, take_all, true, zero, ℕ, ◌&&◌, ◌*◌, ◌++◌, ◌+◌, ◌-◌, ◌/◌, ◌<◌, ◌↔◌, ◌∙◌, ◌∷◌, ◌≡◌, ◌≤◌, ◌⊎◌},
  std.proofs.Math.Bool.{beq},
  std.proofs.Math.Seq.{get_or-append_right},
  std.proofs.lemmas.Bool.{cases_eq, cases_lt, false≢true},
  std.proofs.lemmas.Cmp.{nat_eq_equiv, nat_list_eq_equiv},
  std.proofs.lemmas.List.{get_or-replicate, get_or_append_left, length-replicate, take-replicate},
  std.proofs.lemmas.List.Quantifiers.{position-Some},
  std.proofs.lemmas.List.Sums.{fails_before_first},
  std.proofs.lemmas.Map.Entries.{lookup_from_place},
  std.proofs.lemmas.Nat.{div-mul-add},
  std.proofs.lemmas.Option.{get_or_from_slice_get, slice_get-get_or, slice_get_cases, slice_get_within},
  std.specs.Cmp.Lexicographic.{same_text},
  std.specs.List.{AllByRecursion, list_any, position_or_len},
  std.specs.Map.{keys_of, lookup, lookup_entry},
}
