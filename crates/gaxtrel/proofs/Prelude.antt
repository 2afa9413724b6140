-- The words of specs and of std that proofs of this crate use, passed on from one place. Declares nothing.
pub use Rattle.{
  gaxtrel.specs.Calls.{AreLines, AreNumbers, AreParts, Asks, AsksLine, FindsLine, PutsLines, PutsNumbers, PutsParts, after_lines, bytes_to_next, line_at, line_cost, moved, patterns_in, put_over, steps_of},
  gaxtrel.specs.Kept.{Allows, Kept, Serves, Terms, expressions_in, sought_in, terms_of},
  gaxtrel.specs.declared.text_lines.GaxtrelLine.{GaxtrelLine},
  grep_utility.specs.Working.ServingMatchers.{HaveRoom, most_kept},
  re_meter.specs.Meters.{AddsAtMost, Steps, fresh},
  re_runs.specs.Working.Blocks.{FindsNext, HoldsOfMany, IsBlock, IsNext, PassesAll},
  re_search.specs.Reading.{IsReadable},
  re_search.specs.Working.Matchers.{AreAlike, AreSame, expressions_of, matched_expression, room_of, wants_whole},
  re_search.specs.Working.Sought.{CountsSought, FindsSought, IsSought, Sought, sought_of},
  re_syntax.specs.Bytes.{Text},
  re_syntax.specs.Lines.{HasNoNewline, ended_lines_of, newline, put_before, terminated},
  re_trees.specs.declared.span.Span.{Span},
  std.proofs.Common.{All, Bool, Err, Global, IfErr, IfOk, IsTrue, List, MatchBool, None, Ok, Option, Result, Some, Vec, [], add-one, ap, append-nil, append_assoc, arith, drop, false, get_or, if◌then◌else◌, inl, inr, length, length-append, map, min, mul-le-mul_left, nat_eq, refl, rules, set, subst, suc, sym, take, true, zero, ℕ, ◌*◌, ◌++◌, ◌+◌, ◌-◌, ◌/◌, ◌<◌, ◌^◌, ◌↔◌, ◌∙◌, ◌∷◌, ◌≡◌, ◌≤◌, ◌⊎◌},
  std.proofs.Math.Seq.{drop-append-add, drop-cons, take-append-add, take-append_seam},
  std.proofs.lemmas.Bool.{cases_eq, eq-eqb, eqb-true, false≢true},
  std.proofs.lemmas.List.{drop-drop, drop_all, length-drop, length-map, length-set, length-take-le, length_push, map-append, take_all, take_more_set, take_rest},
  std.proofs.lemmas.List.Elements.{All-append, All-cons, All-head, All-nil, All-push, All-tail},
  std.specs.Bool.{⊤},
}
unfoldable pub use Rattle.re_syntax.specs.Lines.{lines_of}
