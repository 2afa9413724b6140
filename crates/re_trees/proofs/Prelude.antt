-- The words of specs and of std that proofs of this crate use, passed on from one place. Declares nothing.
pub use Rattle.{
  re_trees.specs.Bytes.{Bytes, Text, closed, nothing, only, range, union},
  re_trees.specs.Expression.{Expression, alt, alt_more, alt_none, begin, byte, cat, cat_more, cat_none, empty, end, none_of, one_of, repeat, sequence},
  re_trees.specs.Holds.{Holds, IsWithin, Matches, Turns, folded},
  re_trees.specs.Lines.{AreEndedLines, AreLines, AreListed, HasNoNewline, joined, newline, put_before, put_before_first, terminated},
}
unfoldable pub use Rattle.re_trees.specs.Lines.{ended_lines_of, lines_of, list_of}
pub use Rattle.{
  re_trees.specs.Working.BestStretches.{IsBest, Least, better, better_span, places},
  re_trees.specs.Working.Splits.{texts_of_rest},
  re_trees.specs.Working.Trees.{IsLowest, Takes, expression_of, has_bit, members, node_expression, without},
  re_trees.specs.declared.bytes.ByteSet.{ByteSet},
  re_trees.specs.declared.span.Span.{Span},
  re_trees.specs.declared.tree.Tree.{Tree, Tree-F, fold-roll-Tree, the_lemmas},
  re_trees.specs.declared.tree.Tree.TheVariants.{Alt, Begin, Cat, Empty, End, Not, Repeat, Set, rolls-Alt, rolls-Begin, rolls-Cat, rolls-Empty, rolls-End, rolls-Not, rolls-Repeat, rolls-Set},
  std.proofs.Common.{All, Any, Bool, Box, Global, IfSome, IsTrue, List, MatchBool, None, Option, Some, Vec, [], add-one, ap, append_assoc, arith, bit_and, bit_or, drop, eq-eqb, eq-or-lt_of_le, eqb-true, false, get_or, if◌then◌else◌, inl, inr, leb-false, leb-true, length, length-append, length-drop, map, min, nat_eq, not, nat_le, ne_eqb, refl, rules, slice_get, slice_index_or, suc, sym, take, true, true≢false, zero, ℕ, ◌%◌, ◌&&◌, ◌*◌, ◌++◌, ◌+◌, ◌-◌, ◌/◌, ◌<◌, ◌^◌, ◌||◌, ◌∙◌, ◌∷◌, ◌≡◌, ◌≢◌, ◌≤◌, ◌⊎◌},
  std.proofs.Math.Decide.{dec_le, map_dec, ℕ_discrete},
  std.proofs.Math.Path.{fun_ext},
  std.proofs.lemmas.Bool.{cases_eq, cases_lt, cond-false, cond-true, false≢true},
  std.proofs.lemmas.List.{take_rest},
  std.proofs.lemmas.List.Elements.{All-cons, All-head, All-nil, All-tail},
  std.proofs.lemmas.Nat.{and_le_l, one_shl, shr-shr},
  std.proofs.lemmas.Nat.Bits.{bit_at-lt, bit_at-pow_other, bit_at-pow_same, bit_at-trailing_zeros, bit_at-zero, bit_at_above, bit_at_and, bit_at_cat_high, bit_at_cat_low, bit_at_mask_above, bit_at_mask_below, bit_at_mask_inside, bit_at_not, bit_at_or},
  std.proofs.lemmas.Option.{none-some, same_Some},
  std.specs.Int.{bit_not, trailing_zeros, w128},
}
