use Rattle.re_strings.proofs.Prelude.{◌+◌, ◌<◌, length, OccursAt, AddsEnds, AgreesUpTo}
use Rattle.re_strings.proofs.occurrences.add_occurrences.Given as goal

abbrev pub invariant-places : goal.invariant-places
invariant-places l = record {
  window : AgreesUpTo l.text l.line l.window.left l.window.right;
  begun : l.place < l.window.right → l.window.left < l.place;
  added : AddsEnds (λ i m. (i < l.place) × (m < l.start + (i + length l.text)) × OccursAt l.line l.text i) l.line l.fn.ends l.ends;
}
