-- The words of specs and of std that proofs of this crate use, passed on from one place. Declares nothing.
unfoldable pub use Rattle.re_auto.specs.Working.Bits.{Has}
pub use Rattle.{
  re_auto.specs.Working.Bits.{row_of},
  re_auto.specs.Working.Positions.{Part, PartHolds, Reaches, is_begin, is_end, part_of},
  re_ends.specs.Working.GreatestEnds.{AddsEnds, FoundPast, Leads, LeadsPast, MatchesPast},
  re_trees.specs.Bytes.{Text},
  re_trees.specs.Expression.{Expression},
  re_trees.specs.Holds.{Holds, positions},
  re_trees.specs.Parts.{IsFound},
  re_trees.specs.Working.Trees.{expression_of},
  std.proofs.Common.{Bool, List, Some, [], ap, arith, bit_and, bit_or, drop, eqb-true, false, get_or, get_or-set_other, get_or-set_same, inl, inr, length, length-append, length-set, map, max, nat_eq, refl, replicate, set, slice_get, slice_index, subst, suc, sym, take, true, w64, zero, ℕ, ◌%◌, ◌*◌, ◌++◌, ◌+◌, ◌-◌, ◌/◌, ◌<◌, ◌^◌, ◌↔◌, ◌∙◌, ◌∷◌, ◌≡◌, ◌≤◌, ◌⊎◌},
  std.proofs.lemmas.Bool.{cases_eq, cases_lt, false≢true, true≢false},
  std.proofs.lemmas.List.{get_or_append_left, length-replicate, with_items_is},
  re_auto.specs.Working.Ranges.{Covers},
  re_auto.specs.declared.ranges.WordRange.{WordRange},
  std.specs.Int.{bit_at, bit_not},
  std.proofs.lemmas.Nat.Bits.{bit_at-lt, bit_at-zero, bit_at_or},
  std.proofs.lemmas.Option.{slice_get-get_or},
}
