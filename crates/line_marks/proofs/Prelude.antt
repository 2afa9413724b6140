-- The words of specs and of std that proofs of this crate use, passed on from one place. Declares nothing.
pub use Rattle.{
  line_marks.specs.Stretches.{Fits, Keeps, Marked, Splices, most_stretches},
  line_marks.specs.Working.Covers.{Covers, Loses, Replaces, SplicesList},
  line_marks.specs.Working.Places.{AreCounted, HasLead, IsReached, Passes, led},
  line_marks.specs.Working.Takes.{Takes},
  line_marks.specs.declared.stretch.Stretch.{Stretch},
  line_marks.specs.declared.touched.Touched.{Touched},
  std.proofs.Common.{List, None, Option, Some, [], ap, arith, drop, drop_at, get_or, inl, inr, length, length-append, length-drop, length-take-le, refl, rules, slice_get, subst, suc, take, take_all, zero, ℕ, ◌++◌, ◌+◌, ◌-◌, ◌<◌, ◌^◌, ◌∙◌, ◌∷◌, ◌≡◌, ◌≤◌},
  std.proofs.lemmas.Bool.{cases_lt},
  std.proofs.lemmas.List.{drop-drop, drop_all, drop_more, length-take, take-append-drop, take_more, take_rest},
}
