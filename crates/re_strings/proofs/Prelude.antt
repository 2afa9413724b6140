-- The words of specs and of std that proofs of this crate use, passed on from one place. Declares nothing.
pub use Rattle.{
  memchr.specs.Find.{Nowhere, OccursAt, Passes, is_byte},
  re_strings.specs.Working.Branches.{AreAscending, AreRows, HaveSame, IsBranch, IsRow, branch_at, branch_text, no_branch, own_length, rank, text_at},
  re_strings.specs.Working.FixedSets.{AreClasses, AreFallbacksOf, AreLeapsOf, AreLinked, AreLinkedFor, AreOwn, AreSteps, AreStepsOf, EndsIn, EndsWith, IsFront, IsOutput, IsString, IsTableOf, IsTrie, IsTrieOf, Labels, MayStandFor, NoneBegins, NoneBetween, Occurs, StandsAtNode, StandsFor, StandsSince, StepsOn, better_ending, cell_of, own_or, pair_row},
}
unfoldable pub use Rattle.re_strings.specs.Working.FixedSets.{IsBestOccurrence}
pub use Rattle.re_strings.specs.Working.Keys.{keys}
unfoldable pub use Rattle.re_strings.specs.Working.Keys.{key}
pub use Rattle.{
  re_strings.specs.Working.Overlaps.{AgreesUpTo, CommonLength},
  re_strings.specs.declared.growth.Branch.{Branch},
  re_strings.specs.declared.leaps.Leaps.{Leaps},
  re_trees.specs.Bytes.{Begins, Text, closed, only, other_case, range},
  re_trees.specs.Lines.{newline, put_before},
}
unfoldable pub use Rattle.re_trees.specs.Lines.{lines_of}
pub use Rattle.{
  re_trees.specs.Working.BestStretches.{IsBest, Least, better, better_span, places},
  re_trees.specs.Working.PutEnds.{AddsEnds},
  re_trees.specs.declared.span.Span.{Span},
  std.proofs.Common.{All, Any, Bool, Contains, Equal, Greater, IsPermutation, IsTrue, Less, List, None, Option, Some, [], add-one, ap, append-nil, append_assoc, arith, drop, drop-drop, drop_of_length-le, eq-eqb, eq-or-lt_of_le, eqb-true, false, get_or, get_or-drop, get_or-take, if◌then◌else◌, inl, inr, is_lt, le-leb, le-ltb, length, length-append, length-drop, length-take, length-take-le, lt-ltb, ltb-false, ltb-true, map, nat_cmp, nat_eq, nat_lt, ne_eqb, refl, rules, slice_get, slice_index, subst, suc, sym, take, take-append-drop, take-suc, true, zero, ℕ, ◌++◌, ◌*◌, ◌+◌, ◌-◌, ◌<◌, ◌^◌, ◌%◌, ◌/◌, ◌||◌, ◌↔◌, ◌∙◌, ◌∷◌, ◌≡◌, ◌≤◌, ◌⊎◌},
  std.proofs.Math.Decide.{dec_le},
  std.proofs.Math.ListN.{get_or-eq_default},
  std.proofs.Math.Seq.{drop-length, take-append_seam},
  std.proofs.lemmas.Bool.{and_from, and_left, and_right, cases_eq, cases_lt, cond-false, cond-true, eqb-false, false≢true, lt-leb, or_cases},
  std.proofs.lemmas.Grind.{get_or_default_zero},
  std.proofs.lemmas.List.{drop-append-le, get_or-map, get_or_append_left, get_or_default, get_or_push, length-map},
  std.proofs.lemmas.List.Elements.{All-push},
  std.proofs.lemmas.List.Sorted.{Contains-permutation, IsPermutation-map, IsPermutation-sym},
  std.proofs.lemmas.Nat.{div-mul-add, mod-mul-add},
  std.proofs.lemmas.Option.{none-some, slice_get-get_or, slice_get_past},
  std.specs.Char.{to_ascii_lowercase},
  std.specs.Cmp.{ranks},
  std.specs.Cmp.Lexicographic.{slice_cmp},
  std.specs.Ordering.{MatchOrdering, ordering_then},
}
